-- The format of a sheet: its two sections, each a count and then its lines.
use mathlib.Core.List.{append_assoc}
use mathlib.Core.Path.{◌≡◌, refl}
use native.Mathlib.Omega.{arith}
use lib.ListN.{length}
use Rattle.route_sheet.specs.Text.{line_ends}
use Rattle.route_sheet.specs.Sheet.{Sheet, most_sets, most_moves, SheetAllowed, set_line, move_line, sheet_text}
use Rattle.route_sheet.specs.Inner.Reading.{then_read, read_sections, lines_in}
use Rattle.route_sheet.proofs.TextLaws.{line_ends_append}
use Rattle.route_sheet.proofs.FormatLaws.{Format, same_reader}
use Rattle.route_sheet.proofs.SequenceLaws.{then_assoc, pair}
use Rattle.route_sheet.proofs.MappedFormats.{mapped}
use Rattle.route_sheet.proofs.NumberLaws.{decimal_lines}
use Rattle.route_sheet.proofs.LineLaws.{count_format, set_format, set_lines, move_format, move_lines}
use Rattle.route_sheet.proofs.JoinedLaws.{joined_lines}
use Rattle.route_sheet.proofs.SectionLaws.{lines_format}

pub sections_format : Format sheet_text SheetAllowed read_sections
unfolding sheet_text read_sections then_read
sections_format =
    same_reader
    (mapped {make = λ c. record { sets = c.1.0; moves = c.1.1.1 }}
    (pair (count_format most_sets (omega arith)) (λ m m-ok.
    pair (lines_format set_format m) (λ sets sets-ok.
    pair (count_format most_moves (omega arith)) (λ n n-ok.
    lines_format (move_format m m-ok.from) n))))
    (record {
      made_ok =
          λ c h.
          record {
            first = record { count = rw h.1.0.count h.0; each = h.1.0.each };
            second = record { count = rw h.1.1.1.count h.1.1.0; each = rw h.1.0.count h.1.1.1.each };
          };
      made_text = λ c h. rw (h.1.0.count, h.1.1.1.count, append_assoc);
      part = λ x h. (length x.sets, (x.sets, (length x.moves, x.moves)));
      part_ok =
          λ x h.
          (h.first.count, (record { each = h.first.each; count = refl }, (h.second.count, record { each = h.second.each; count = refl })));
      part_makes = λ x h. refl;
    }))
    (λ t. simp then_assoc)

pub sheet_lines : (x : Sheet) → line_ends (sheet_text x) ≡ lines_in x
unfolding sheet_text
sheet_lines x =
    simp (line_ends_append, decimal_lines, joined_lines set_line set_lines x.sets, joined_lines move_line move_lines x.moves)
    (omega arith)
