-- The places of moves, of which the first `count` are listed: each names a set that has a place.
use Rattle.std.specs.Prelude.{List, ℕ, ◌≤◌, take}
use Rattle.planner.specs.Refusals.{Each}
use Rattle.route_sheet.specs.Sheet.{Within, most_sets, most_moves}
use Rattle.route_sheet.specs.declared.RouteMove.{RouteMove}

pub record RouteListed (moves : List RouteMove) (count : ℕ) : Type 0 where
  pub count_most : count ≤ most_moves
  pub each : Each (λ m. Within 1 most_sets m.set) (take count moves)
