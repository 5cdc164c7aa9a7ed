-- `over_four` meets its contract. The copies fit whichever is taken from the other, so that a wrong sign fails where it is wrong.
use mathlib.Core.List.{[], ◌∷◌}
use mathlib.Core.Path.{◌∙◌}
use native.Mathlib.Omega.{arith}
use Rattle.motion.proofs.FallingFactorials.{copies_at, difference_fits, one_width_more}
use Rattle.motion.proofs.closed_form.over_four.Goals as goal

pub less-requires : goal.less-requires
less-requires c =
    let a = c.args in
    let copies = copies_at (a.c ∷ a.b ∷ a.a ∷ []) a.k c.saturating_sub.result in
    let either = difference_fits copies (omega arith) c.requires (omega (arith, c.saturating_sub.ensures, c.requires)) in
    rw (c.over_three-now.ensures, c.over_three-late.ensures) (search either)

pub returns : goal.returns
returns c =
    let a = c.args in
    let copies = copies_at (a.c ∷ a.b ∷ a.a ∷ []) a.k c.saturating_sub.result in
    let wider = one_width_more copies a.e (omega (arith, c.saturating_sub.ensures)) in
    c.less.ensures ∙ rw (c.over_three-now.ensures, c.over_three-late.ensures) wider
