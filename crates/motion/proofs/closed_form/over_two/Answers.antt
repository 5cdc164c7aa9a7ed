-- `over_two` meets its contract. The copies fit whichever is taken from the other, so that a wrong sign fails where it is wrong.
use mathlib.Core.List.{[], ◌∷◌}
use mathlib.Core.Path.{◌∙◌}
use native.Mathlib.Omega.{arith}
use Rattle.motion.proofs.FallingFactorials.{copies_at, difference_fits, one_width_more}
use Rattle.motion.proofs.closed_form.over_two.Goals as goal

pub less-requires : goal.less-requires
less-requires c =
    let a = c.args in
    let copies = copies_at (a.a ∷ []) a.k c.saturating_sub.result in
    let either = difference_fits copies (omega arith) c.requires (omega (arith, c.saturating_sub.ensures, c.requires)) in
    rw (c.over_one-now.ensures, c.over_one-late.ensures) (search either)

pub returns : goal.returns
returns c =
    let a = c.args in
    let copies = copies_at (a.a ∷ []) a.k c.saturating_sub.result in
    let wider = one_width_more copies a.b (omega (arith, c.saturating_sub.ensures)) in
    c.less.ensures ∙ rw (c.over_one-now.ensures, c.over_one-late.ensures) wider
