-- The parts of a move's line, and what they need: room, and intervals that follow each other, whose differences are the durations.
use Rattle.std.specs.Prelude.{List, ◌++◌, ◌≡◌, ℕ, ◌+◌, ◌≤◌, ◌<◌, ℤ, pos, Ok}
use Rattle.planner.specs.Quantities.{along}
use Rattle.planner.specs.Intervals.{N}
use Rattle.planner.specs.Outcome.{most_samples, intervals_in}
use Rattle.planner.specs.Inner.Facts.{Ordered}
use Rattle.planner.specs.declared.Plan.{Plan}
use Rattle.route_sheet.specs.Text.{ascii, decimal, signed_decimal}
use Rattle.route_sheet.specs.Sheet.{most_moves}
use Rattle.route_sheet.specs.Report.{move_report, most_report}
use Rattle.route_sheet.specs.Inner.Output.{Room}

-- The word before a snap's size, which has the sign of X: the size is not 0, so its sign can be put before it.
abbrev pub SnapWord : (X : ℤ) → List ℕ → Type 0
SnapWord X word =
    (D : ℕ) (rest : List ℕ) → 0 < D → word ++ (decimal D ++ rest) ≡ ascii " snap " ++ (signed_decimal (along X (pos D)) ++ rest)

pub record PlanRoom (number : ℕ) (X : ℤ) (x : Plan) (at : ℕ) : Type 0 where
  pub ordered : Ordered (intervals_in x)
  pub samples : N (intervals_in x) ≤ most_samples
  pub from_one : 0 < x.snap
  pub room : Room at (move_report number X (Ok x))

-- The most bytes of a move's line that are counted on: 256 such lines fill the places of a report.
abbrev pub most_line : ℕ
most_line = 128

pub record LineRoom (at number : ℕ) : Type 0 where
  pub number_most : number ≤ most_moves
  pub room : at + most_line ≤ most_report
