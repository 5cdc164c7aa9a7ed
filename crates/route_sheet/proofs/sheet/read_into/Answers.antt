use Rattle.std.proofs.Common.{rules, arith}
use Rattle.route_sheet.proofs.SheetRuns.{reads}
use Rattle.route_sheet.proofs.sheet.read_into.Goals as goal

pub returns : goal.returns
returns c =
    reads c.args.text.now (omega arith) c.read_whole.new.sheet c.map_err.result c.read_whole.result c.read_whole.ensures c.map_err.ensures.cases
    (λ e y p. search rules)
