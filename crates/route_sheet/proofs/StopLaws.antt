-- Where reading a text stops, and why no beginning that can go on is longer.
use mathlib.Core.List.{List, [], ◌∷◌, ◌++◌, append-nil, append_assoc}
use mathlib.Core.Path.{◌≡◌, ◌∙◌, sym}
use Prim.Native.Nat.{ℕ, ◌≤◌}
use native.Mathlib.Omega.{arith}
use lib.ListN.{length, length-append}
use Rattle.route_sheet.specs.Inner.Reading.{Parse, parsed}
use Rattle.route_sheet.proofs.TextLaws.{Overlap, longer, shorter, overlap}
use Rattle.route_sheet.proofs.FormatLaws.{Begins, Failure, not_both}

module _ {A : Type 0} {text : A → List ℕ} {ok : A → Type 0} {read : List ℕ → Parse A} where
  pub longest :
      ((a : A) → ok a → read (text a) ≡ parsed a []) →
      {t rest : List ℕ} (h : Failure text ok read t rest) (other after : List ℕ) → t ≡ other ++ after → Begins text ok other →
      length other ≤ length h.beginning
  longest reads_whole {t} {rest} h other after e o = go (overlap h.beginning rest other after (sym h.splits ∙ e))
    where
      go : Overlap h.beginning rest other after → length other ≤ length h.beginning
      go (longer b more f g) = rw (f, length-append) (omega arith)
      go (shorter [] f g) = rw (f, append-nil) (omega arith)
      go (shorter (b ∷ more) f g) =
          let whole : text o.value ≡ h.beginning ++ (b ∷ (more ++ o.rest)) = cc (o.whole, append_assoc h.beginning (b ∷ more) o.rest) in
          absurd (not_both (rw whole at (reads_whole o.value o.allowed)) (h.stays b (more ++ after) g (more ++ o.rest)))
