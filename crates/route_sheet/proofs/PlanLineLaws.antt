-- The planner's answer, as the line of its move.
use mathlib.Core.Path.{◌≡◌, sym, ap, ◌∙◌}
use mathlib.Core.List.{List}
use lib.IntN.{pos}
use Prim.Native.Nat.{ℕ}
use native.Mathlib.Omega.{arith}
use Rattle.std.specs.Prelude.{Result, Ok, Err}
use Rattle.planner.specs.Outcome.{outcome_of, Plans, number, outcome}
use Rattle.planner.specs.declared.Move.{Move}
use Rattle.planner.specs.declared.Plan.{Plan}
use Rattle.planner.specs.declared.Refusal.{Refusal}
use Rattle.planner.proofs.PlannedFacts.{answer_facts, snap_from_one}
use Rattle.route_sheet.specs.Report.{move_report}
use Rattle.route_sheet.specs.Inner.Output.{Room}
use Rattle.route_sheet.specs.Inner.Lines.{PlanRoom, LineRoom}
use Rattle.route_sheet.proofs.ReportBounds.{line_length}

-- A refusal's line does not name X.
abbrev pub refusal_text : (number refusal : ℕ) → List ℕ
refusal_text number refusal = move_report number (pos 0) (Err refusal)

room : (m : Move) (k at : ℕ) → LineRoom at k → Room at (move_report k m.displacement (outcome_of m))
room m k at line = omega (arith, line_length k m line.number_most, line.room)

planned : {m : Move} {r x : Result Plan Refusal} → Plans m (outcome r) → r ≡ x → outcome x ≡ outcome_of m
planned plans e = ap outcome (sym e) ∙ plans.outcome_is

module _ {m : Move} {r : Result Plan Refusal} (plans : Plans m (outcome r)) (k at : ℕ) (line : LineRoom at k) where
  pub plan_room : (x : Plan) → r ≡ Ok x → PlanRoom k m.displacement x at
  plan_room x e =
      let facts = answer_facts plans e in
      record {
        ordered = facts.ordered;
        samples = facts.samples;
        from_one = snap_from_one facts;
        room = rw (planned plans e) (room m k at line);
      }

  pub refusal_is : (x : Refusal) → r ≡ Err x → refusal_text k (number x) ≡ move_report k m.displacement (outcome_of m)
  unfolding move_report
  refusal_is x e = rw (← planned plans e)

  pub refusal_room : (x : Refusal) → r ≡ Err x → Room at (refusal_text k (number x))
  refusal_room x e = rw (refusal_is x e) (room m k at line)
