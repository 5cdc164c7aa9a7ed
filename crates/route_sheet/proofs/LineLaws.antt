-- The formats of a count's line, a set's and a move's, each with one line end.
use mathlib.Core.Bool.{false}
use mathlib.Core.Path.{◌≡◌, refl}
use Prim.Native.Nat.{ℕ, ◌≤◌}
use native.Mathlib.Omega.{arith}
use Rattle.route_sheet.specs.Text.{space, line_end, line_ends, decimal}
use Rattle.route_sheet.specs.Sheet.{Within, most_number, SetAllowed, MoveAllowed, ended, count_line, set_line, move_line}
use Rattle.route_sheet.specs.Inner.Reading.{is_digit, then_read, read_number, read_set, read_move}
use Rattle.route_sheet.specs.declared.BoundSet.{BoundSet}
use Rattle.route_sheet.specs.declared.RouteMove.{RouteMove}
use Rattle.route_sheet.proofs.TextLaws.{line_ends_append}
use Rattle.route_sheet.proofs.FormatLaws.{Format, same_reader}
use Rattle.route_sheet.proofs.SequenceLaws.{then_assoc, pair}
use Rattle.route_sheet.proofs.MappedFormats.{mapped}
use Rattle.route_sheet.proofs.NumberLaws.{decimal_lines, number_format}
use Rattle.route_sheet.proofs.DisplacementLaws.{signed_lines, displacement_format}

-- V, A, J and S.
pub bound_format : (end : ℕ) → is_digit end ≡ false → Format (λ n. ended end (decimal n)) (Within 0 most_number) (read_number 0 most_number end)
bound_format end plain = number_format 0 most_number end (omega arith) plain (omega arith)

pub bound_lines : (n : ℕ) → line_ends (ended space (decimal n)) ≡ 0
bound_lines n = simp (line_ends_append, decimal_lines)

-- A count, and a set number, which ends its line too.
pub count_format : (most : ℕ) → 1 ≤ most → Format count_line (Within 1 most) (read_number 1 most line_end)
count_format most h = number_format 1 most line_end (omega arith) refl h

pub count_lines : (n : ℕ) → line_ends (count_line n) ≡ 1
count_lines n = simp (line_ends_append, decimal_lines)

pub set_format : Format set_line SetAllowed read_set
unfolding set_line read_set then_read
set_format =
    same_reader
    (mapped
    (pair (bound_format space refl) (λ v v-ok.
    pair (bound_format space refl) (λ a a-ok.
    pair (bound_format space refl) (λ j j-ok. bound_format line_end refl))))
    (record {
      made_ok = λ c h. record { velocity = h.0; acceleration = h.1.0; jerk = h.1.1.0; snap = h.1.1.1 };
      made_text = λ c h. refl;
      part = λ x h. (x.velocity, (x.acceleration, (x.jerk, x.snap)));
      part_ok = λ x h. (h.velocity, (h.acceleration, (h.jerk, h.snap)));
      part_makes = λ x h. refl;
    }))
    (λ t. simp then_assoc)

pub set_lines : (x : BoundSet) → line_ends (set_line x) ≡ 1
unfolding set_line
set_lines x = simp (line_ends_append, decimal_lines)

pub move_format : (setCount : ℕ) → 1 ≤ setCount → Format move_line (MoveAllowed setCount) (read_move setCount)
unfolding move_line read_move then_read
move_format setCount least =
    same_reader
    (mapped (pair displacement_format (λ x x-ok. count_format setCount least))
    (record {
      made_ok = λ c h. record { displacement = h.0; set = h.1 };
      made_text = λ c h. refl;
      part = λ m h. (m.displacement, m.set);
      part_ok = λ m h. (h.displacement, h.set);
      part_makes = λ m h. refl;
    }))
    (λ t. simp then_assoc)

pub move_lines : (x : RouteMove) → line_ends (move_line x) ≡ 1
unfolding move_line
move_lines x = simp (line_ends_append, signed_lines, decimal_lines)
