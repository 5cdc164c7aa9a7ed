use Rattle.std.proofs.Common.{◌≡◌, ◌+◌, ◌≤◌, ◌∷◌, slice_index_or, length, drop, pos, ap, arith, add-one}
use Rattle.std.proofs.Math.Seq.{drop-cons}
use Rattle.motion.specs.declared.sums.Stretch.{Stretch}
use Rattle.motion.specs.Inner.Stretches.{row_count}
use Rattle.motion.proofs.StretchRows.{Progress-more}
use Rattle.motion.proofs.sums.fill_stretches.Goals as goal

pub loop-stretch-preserved : goal.loop-stretch-preserved
loop-stretch-preserved g c =
    let i = c.loop-stretch.stretch-index in
    let stretches = c.args.stretches.now in
    let x : Stretch = slice_index_or stretches i (record { samples = 0; level = pos 0 }) in
    let split : drop i stretches ≡ x ∷ drop (i + 1) stretches = rw add-one (drop-cons stretches i (record { samples = 0; level = pos 0 }) c.loop-stretch-test.true) in
    let room : c.loop-stretch.at + x.samples ≤ length c.loop-stretch.table =
    omega (arith, ap row_count split, c.loop-stretch.invariant.place, c.requires.room, c.loop-stretch.auto.table) in
    Progress-more x (drop i stretches) (drop (i + 1) stretches) c.loop-stretch.current c.fill_stretch-current.result c.loop-stretch.at c.loop-stretch.table
    c.fill_stretch-current.new.part split c.loop-stretch.invariant room c.fill_stretch-current.ensures.rows c.fill_stretch-current.ensures.state
