use Rattle.route_sheet.proofs.OutputLaws.{word_room, number_room, end_room, line_put}
use Rattle.route_sheet.proofs.output.put_line.Goals as goal

pub put-end-requires : goal.put-end-requires
put-end-requires c = rw c.as_bytes.ensures.value (word_room c.loop-word.invariant _ c.loop-word-test.true c.requires)

pub put-end-requires-in-loop-word : goal.put-end-requires-in-loop-word
put-end-requires-in-loop-word c =
    rw c.digits.ensures
    (number_room c.loop-word.invariant _ c.loop-word-test.true c.requires (rw c.as_bytes.ensures.value at c.put-end.ensures))

pub put-requires : goal.put-requires
put-requires c = end_room c.loop-word.invariant c.loop-word-test.false c.requires

pub returns : goal.returns
returns c = line_put c.loop-word.invariant c.loop-word-test.false c.put.ensures
