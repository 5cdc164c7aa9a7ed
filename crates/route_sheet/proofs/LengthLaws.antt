-- No sheet is too long: its text has at most 7,431 bytes.
use Prim.Native.Nat.{ℕ, ◌≤◌}
use native.Mathlib.Omega.{arith}
use lib.IntN.{nat_abs}
use lib.ListN.{length, length-append}
use Rattle.route_sheet.specs.Text.{decimal}
use Rattle.route_sheet.specs.Sheet.{Sheet, Within, most_sets, most_number, SetAllowed, MoveAllowed, SheetAllowed, set_line, move_line, sheet_text}
use Rattle.route_sheet.specs.declared.BoundSet.{BoundSet}
use Rattle.route_sheet.specs.declared.RouteMove.{RouteMove}
use Rattle.route_sheet.proofs.DecimalLaws.{decimal_length, signed_length}
use Rattle.route_sheet.proofs.JoinedLaws.{joined_length}

bound_length : (n : ℕ) → Within 0 most_number n → length (decimal n) ≤ 19
bound_length n h = decimal_length 18 n (omega arith)

set_length : (x : BoundSet) → SetAllowed x → length (set_line x) ≤ 80
unfolding set_line
set_length x h =
    simp length-append
    (omega (
      arith,
      bound_length x.velocity h.velocity,
      bound_length x.acceleration h.acceleration,
      bound_length x.jerk h.jerk,
      bound_length x.snap h.snap,
    ))

move_length : (setCount : ℕ) → setCount ≤ most_sets → (x : RouteMove) → MoveAllowed setCount x → length (move_line x) ≤ 24
unfolding move_line
move_length setCount few x h =
    simp length-append
    (omega (
      arith,
      signed_length x.displacement,
      decimal_length 18 (nat_abs x.displacement) (omega (arith, h.displacement)),
      decimal_length 1 x.set (omega (arith, h.set)),
    ))

pub sheet_length : (x : Sheet) → SheetAllowed x → length (sheet_text x) ≤ 7431
unfolding sheet_text
sheet_length x h =
    simp length-append
    (omega (
      arith,
      h.first.count,
      h.second.count,
      decimal_length 1 (length x.sets) (omega (arith, h.first.count)),
      decimal_length 2 (length x.moves) (omega (arith, h.second.count)),
      joined_length set_line 80 set_length x.sets h.first.each,
      joined_length move_line 24 (move_length (length x.sets) h.first.count.to) x.moves h.second.each,
    ))
