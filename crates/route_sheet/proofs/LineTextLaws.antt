-- The text of a move's line.
use mathlib.Core.Bool.{true, false}
use mathlib.Core.List.{List, [], ◌∷◌, ◌++◌}
use mathlib.Core.Path.{◌≡◌}
use Prim.Native.Nat.{ℕ, zero, suc, ◌<◌}
use native.Mathlib.Omega.{arith}
use lib.IntN.{ℤ, pos}
use lib.Signed.{lt_z}
use Rattle.planner.specs.Quantities.{along}
use Rattle.planner.proofs.DirectionLaws.{along_negative, along_positive}
use Rattle.planner.specs.Intervals.{p, q, r, s, N}
use Rattle.std.specs.Prelude.{Ok}
use Rattle.planner.specs.Outcome.{intervals_in}
use Rattle.planner.specs.declared.Plan.{Plan}
use Rattle.route_sheet.specs.Text.{ascii, line_end, minus, decimal, signed_decimal}
use Rattle.route_sheet.specs.Report.{field, move_report}
use Rattle.route_sheet.specs.Inner.Lines.{SnapWord}

-- A size that is not 0, with the sign of X.
pub sign_negative : (X : ℤ) (D : ℕ) → lt_z X (pos 0) ≡ true → 0 < D → signed_decimal (along X (pos D)) ≡ minus ∷ decimal D
unfolding signed_decimal
sign_negative X zero h d = absurd (omega arith)
sign_negative X (suc D) h d = rw (along_negative X (pos (suc D)) h)

pub sign_positive : (X : ℤ) (D : ℕ) → lt_z X (pos 0) ≡ false → signed_decimal (along X (pos D)) ≡ decimal D
unfolding signed_decimal
sign_positive X D h = rw (along_positive X (pos D) h)

-- The line of a planned move, by its fields.
pub plan_line :
    (number : ℕ) (X : ℤ) (x : Plan) (word : List ℕ) → SnapWord X word → 0 < x.snap →
    let t = intervals_in x in
    ascii "move " ++ (decimal number
    ++ (ascii " n " ++ (decimal (N t)
    ++ (ascii " p " ++ (decimal (p t)
    ++ (ascii " q " ++ (decimal (q t)
    ++ (ascii " r " ++ (decimal (r t)
    ++ (ascii " s " ++ (decimal (s t)
    ++ (word ++ (decimal x.snap
    ++ (ascii " short " ++ (decimal x.shortfall ++ (line_end ∷ []))))))))))))))))
    ≡ move_report number X (Ok x)
unfolding move_report field
plan_line number X x word w h = rw (w x.snap _ h)
