use Rattle.std.proofs.Common.{rules, arith, List, ℕ, ◌≡◌, ◌∙◌, ap}
use Rattle.route_sheet.specs.Sheet.{most_sets, most_moves}
use Rattle.route_sheet.specs.Answer.{zero_set, zero_move}
use Rattle.route_sheet.specs.Inner.Reading.{failed, then_read, read_set, read_move, read_sections, read_whole}
use Rattle.route_sheet.proofs.ComesToLaws.{rest_left}
use Rattle.route_sheet.proofs.SheetRuns.{in_places, something_after, nothing_after}
use Rattle.route_sheet.proofs.sheet.read_whole.Goals as goal

-- The rest that is told is the one that was read to, however it is written: `rest_left` is for one that is cut from the text.
pub returns-then-not-is_empty : goal.returns-then-not-is_empty
unfolding read_whole read_sections then_read
returns-then-not-is_empty c =
    let m = c.in_ok-set_count.ensures in
    let n = c.in_ok-move_count.ensures in
    let sets = in_places read_set _ most_sets zero_set _ c.requires.0 m.at_most c.read_lines.auto.places c.in_ok-rest.ensures in
    let moves = in_places (read_move _) _ most_moves zero_move _ c.requires.1 n.at_most c.read_lines-2.auto.places c.in_ok-rest-2.ensures in
    let rest = c.in_ok-rest-2.rest.now in
    let stops : read_whole c.args.text.now ≡ failed rest =
    rw (← m.reads, sets.found, ← n.reads, moves.found) (something_after _ _ c.if-not-is_empty.ensures) in
    stops ∙ ap (λ (r : List ℕ). failed r) (search (rules, arith, rest_left c.args.text.now stops))

pub returns : goal.returns
unfolding read_whole read_sections then_read
returns c =
    let m = c.in_ok-set_count.ensures in
    let n = c.in_ok-move_count.ensures in
    let sets = in_places read_set _ most_sets zero_set _ c.requires.0 m.at_most c.read_lines.auto.places c.in_ok-rest.ensures in
    let moves = in_places (read_move _) _ most_moves zero_move _ c.requires.1 n.at_most c.read_lines-2.auto.places c.in_ok-rest-2.ensures in
    record {
      sheet = record { sets = c.read_lines.new.places; moves = c.read_lines-2.new.places };
      found = rw (← m.reads, sets.found, ← n.reads, moves.found) (nothing_after _ _ c.if-not-is_empty.ensures);
      lists = record { set_count = sets.count_is; move_count = moves.count_is; sets = sets.places; moves = moves.places };
    }
