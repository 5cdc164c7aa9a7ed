-- `put` meets its contract: one byte more in each turn.
use Rattle.std.proofs.Common.{rules}
use Rattle.route_sheet.proofs.OutputLaws.{put_next}
use Rattle.route_sheet.proofs.output.put.Goals as goal

pub loop-i-preserved : goal.loop-i-preserved
loop-i-preserved c = put_next c.args.text.now c.loop-i-test.true (search rules) c.loop-i.invariant
