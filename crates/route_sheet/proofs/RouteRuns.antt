-- The loop that puts the lines of the moves: its invariant, and what a turn keeps of it.
use mathlib.Core.List.{List, [], ◌∷◌, ◌++◌, append-nil, append_assoc}
use mathlib.Core.Path.{◌≡◌}
use Prim.Native.Nat.{ℕ, suc, ◌+◌, ◌*◌, ◌≤◌, ◌<◌}
use native.Mathlib.Nat.{add-zero}
use native.Mathlib.Numerals.{add-one}
use native.Mathlib.Omega.{arith}
use native.Mathlib.Nat.{min-le_left}
use lib.ListN.{length, take, get_or}
use lib.Seq.{take-suc, length-take-le}
use Rattle.std.proofs.lemmas.List.{length-take}
use Rattle.planner.specs.Outcome.{outcome_of}
use Rattle.planner.specs.declared.Move.{Move}
use Rattle.route_sheet.specs.Sheet.{most_moves}
use Rattle.route_sheet.specs.Answer.{zero_move}
use Rattle.route_sheet.specs.Report.{move_report, move_of, moves_report}
use Rattle.route_sheet.specs.Inner.Output.{Puts}
use Rattle.route_sheet.specs.Inner.Lines.{most_line, LineRoom}
use Rattle.route_sheet.specs.Inner.Route.{RouteListed}
use Rattle.route_sheet.specs.declared.BoundSet.{BoundSet}
use Rattle.route_sheet.specs.declared.RouteMove.{RouteMove}
use Rattle.route_sheet.proofs.OutputLaws.{put_none, put_more}
use Rattle.route_sheet.proofs.ReportBounds.{line_length}

pub few_routes : {moves : List RouteMove} {count : ℕ} → RouteListed moves count → length (take count moves) ≤ most_moves
few_routes {moves} {count} listed = omega (arith, length-take count moves, min-le_left count (length moves), listed.count_most)

-- The line of one move more comes last.
abbrev line : List BoundSet → (number : ℕ) → RouteMove → List ℕ
line sets number m = move_report number m.displacement (outcome_of (move_of sets m))

one_more :
    (sets : List BoundSet) (number : ℕ) (ms : List RouteMove) (m : RouteMove) →
    moves_report sets number (ms ++ (m ∷ [])) ≡ moves_report sets number ms ++ line sets (number + length ms) m
unfolding moves_report
one_more sets number [] m = rw (append-nil, add-zero)
one_more sets number (x ∷ ms) m =
    let next : suc number + length ms ≡ number + suc (length ms) = omega arith in
    rw (one_more sets (suc number) ms m, next, append_assoc)

pub record LinesPut (old : List ℕ) (sets : List BoundSet) (routes : List RouteMove) (i at : ℕ) (new : List ℕ) : Type 0 where
  pub puts : Puts old 0 (moves_report sets 1 (take i routes)) at new
  pub short : at ≤ most_line * i

pub no_line : (old : List ℕ) (sets : List BoundSet) (routes : List RouteMove) → LinesPut old sets routes 0 0 old
unfolding moves_report
no_line old sets routes = record { puts = put_none old 0; short = omega arith }

module _ {old : List ℕ} {sets : List BoundSet} {routes : List RouteMove} {i at : ℕ} {mid : List ℕ}
    (so_far : LinesPut old sets routes i at mid)
  where
    pub next_line :
        {m : Move} {next : ℕ} {new : List ℕ} → i < length routes → length routes ≤ most_moves → m ≡ move_of sets (get_or routes i zero_move) →
        Puts mid at (move_report (i + 1) m.displacement (outcome_of m)) next new → LinesPut old sets routes (i + 1) next new
    unfolding move_of
    next_line {m} h few is put =
        let x = get_or routes i zero_move in
        let more : take (i + 1) routes ≡ take i routes ++ (x ∷ []) = rw add-one (take-suc routes i zero_move h) in
        let number : 1 + length (take i routes) ≡ i + 1 = rw (length-take-le i routes (omega arith)) (omega arith) in
        let line_put = rw is at put in
        let size = line_length (i + 1) (move_of sets x) (omega arith) in
        record {
          puts = rw (more, one_more sets 1 (take i routes) x, number) (put_more so_far.puts line_put);
          short = omega (arith, so_far.short, line_put.next_is, size);
        }

    -- A line has room where the lines so far have it.
    pub next_room : i < length routes → length routes ≤ most_moves → LineRoom at (i + 1)
    next_room h few = record { number_most = omega arith; room = omega (arith, so_far.short) }
