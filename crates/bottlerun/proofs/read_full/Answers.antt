use Rattle.std.proofs.Common.{◌≡◌, ℕ, ◌+◌, ◌≤◌, List, ◌++◌, arith, length, take, sym, subst, drop_at, le_refl, length-take-le}
use Rattle.std.specs.Io.KnownBytes.{Consumes}
use Rattle.std.proofs.KnownBytes.{Consumes-trans}
use Rattle.std.proofs.lemmas.Slice.{take-put_mid_below}
use borrow.Rule.Slice.PartMut.{put_mid, post_of}
use lib.Seq.{take-add, take-append-le}
use Rattle.bottlerun.proofs.read_full.Goals as goal

-- The first n bytes of a part come after those before it.
taken :
    (done k n : ℕ) (text part : List ℕ) → done ≤ length text → n ≤ length part →
    take (done + n) (put_mid done k text part) ≡ take done text ++ take n part
taken done k n text part within fits =
    rw (
      take-add done n (put_mid done k text part),
      take-put_mid_below done k text part done (le_refl done) within,
      drop_at (take done text) (part ++ post_of done k text) done (length-take-le done text within),
      take-append-le n part (post_of done k text) fits,
    )

pub loop-done-preserved : goal.loop-done-preserved
loop-done-preserved g c =
    let read = c.in-Ok.ensures in
    (omega arith, subst (Consumes _ _) (sym (taken _ _ _ _ _ c.loop-done.invariant.0 read.bound.0)) (Consumes-trans _ _ _ _ _ c.loop-done.invariant.1 read.bytes.0))
