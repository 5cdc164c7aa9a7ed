-- No line of a move is longer than `most_line`.
use mathlib.Core.Path.{◌≡◌, refl, sym}
use Prim.Native.Nat.{ℕ, ◌≤◌}
use native.Mathlib.Omega.{arith}
use lib.IntN.{pos}
use lib.ListN.{length, length-append}
use Rattle.planner.specs.Quantities.{along}
use Rattle.planner.specs.Intervals.{p, q, r, s, N}
use Rattle.std.specs.Prelude.{Result, Ok, Err}
use Rattle.planner.specs.Outcome.{intervals_of, intervals_in, outcome_of}
use Rattle.planner.specs.Inner.Facts.{PlanFacts}
use Rattle.planner.specs.declared.Move.{Move}
use Rattle.planner.specs.declared.Plan.{Plan}
use Rattle.planner.proofs.DirectionLaws.{size_along}
use Rattle.planner.proofs.PlannedFacts.{planned_facts}
use Rattle.planner.proofs.RuleRefusals.{refused_most}
use Rattle.route_sheet.specs.Sheet.{most_moves}
use Rattle.route_sheet.specs.Report.{field, move_report}
use Rattle.route_sheet.specs.Inner.Lines.{most_line}
use Rattle.route_sheet.proofs.DecimalLaws.{decimal_length, signed_length}

module _ (number : ℕ) (m : Move) (few : number ≤ most_moves) where
  refusal_length : (n : ℕ) → n ≤ 14 → length (move_report number m.displacement (Err n)) ≤ most_line
  unfolding move_report field
  refusal_length n h = simp length-append (omega (arith, decimal_length 2 number (omega arith), decimal_length 1 n (omega arith)))

  plan_length : (x : Plan) → PlanFacts m (intervals_of m) x → length (move_report number m.displacement (Ok x)) ≤ most_line
  unfolding move_report field
  plan_length x facts =
      let t = intervals_in x in
      let moves = decimal_length 2 number (omega arith) in
      let total = decimal_length 3 (N t) (omega (arith, facts.samples)) in
      let first = decimal_length 3 (p t) (omega (arith, facts.samples)) in
      let second = decimal_length 3 (q t) (omega (arith, facts.samples)) in
      let third = decimal_length 3 (r t) (omega (arith, facts.samples)) in
      let fourth = decimal_length 3 (s t) (omega (arith, facts.samples)) in
      let size = decimal_length 15 x.snap (omega (arith, facts.bounds.snap, facts.accepted.is_in_range.bounds.snap.at_most)) in
      let missing = decimal_length 11 x.shortfall (omega (arith, facts.shortfall_below, facts.product)) in
      simp length-append (omega (arith, rw size_along at (signed_length (along m.displacement (pos x.snap)))))

  -- The line of any move.
  pub line_length : length (move_report number m.displacement (outcome_of m)) ≤ most_line
  line_length = go (outcome_of m) refl
    where
      go : (o : Result Plan ℕ) → outcome_of m ≡ o → length (move_report number m.displacement (outcome_of m)) ≤ most_line
      go (Err n) e = rw e (refusal_length n (refused_most m n e).1)
      go (Ok x) e = rw e (plan_length x (planned_facts (record { outcome_is = sym e })))
