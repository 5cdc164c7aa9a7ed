use mathlib.Core.Path.{sym, ◌∙◌, ap}
use native.Mathlib.Omega.{arith}
use Rattle.std.specs.Fmt as std
use Rattle.route_sheet.proofs.DecimalBridge.{decimal_same}
use Rattle.route_sheet.proofs.output.digits.Goals as goal

-- What is formatted is n: another number fails at this step.
pub returns : goal.returns
returns c = c.as_bytes.ensures.value ∙ c.format.ensures.text ∙ ap std.decimal (omega arith) ∙ sym (decimal_same c.args.n (omega arith))
