-- The closed form for a signed D: the theorem that the one-sample entries rest on, over any list of widths, each at least the sum of those
-- inside it.
use mathlib.Core.Path.{◌≡◌, refl, sym, ap, ◌∙◌, fun_ext}
use mathlib.Core.List.{List, [], ◌∷◌, ◌++◌}
use Prim.Native.Nat.{ℕ, zero, suc, ◌*◌}
use lib.IntN.{ℤ, pos, negsuc, neg_ℤ, neg_ℤ-neg_ℤ, ◌*ℤ◌, zero-*ℤ}
use lib.Signed.{quot_z}
use Rattle.profile.specs.Profile.{switched_in}
use Rattle.profile.specs.Inner.Repeated.{sums}
use Rattle.profile.specs.Inner.Widths.{Spread, switched, switched_by}
use Rattle.profile.specs.Inner.ClosedForm.{falling, factorial, differences}
use Rattle.profile.proofs.SumLaws.{sums_negated}
use Rattle.profile.proofs.SwitchedLaws.{value_by_negated, value_by_widths}
use Rattle.profile.proofs.ClosedForm.{by_products}

negative_times : (D : ℕ) (x : ℤ) → neg_ℤ (pos D) *ℤ x ≡ neg_ℤ (pos D *ℤ x)
negative_times zero x = zero-*ℤ x ∙ ap neg_ℤ (sym (zero-*ℤ x))
negative_times (suc d) (pos n) = refl
negative_times (suc d) (negsuc n) = sym (neg_ℤ-neg_ℤ (pos (suc d * suc n)))

module _ (a : ℕ) (ws : List ℕ) (s : Spread a ws) (n k : ℕ) where
  -- the sums for D, and for its negative
  pub forward : (D : ℕ) → sums n (switched_by a ws (pos D) (neg_ℤ (pos D))) k ≡ sums n (switched_in (switched a ws) D) k
  forward D = ap (λ (f : ℕ → ℤ). sums n f k) (sym (fun_ext (value_by_widths a ws s D)))

  pub backward : (d : ℕ) → sums n (switched_by a ws (negsuc d) (pos (suc d))) k ≡ neg_ℤ (sums n (switched_in (switched a ws) (suc d)) k)
  backward d =
      ap (λ (f : ℕ → ℤ). sums n f k) (fun_ext (value_by_negated a ws (pos (suc d)) (negsuc d)))
      ∙ sums_negated n (switched_by a ws (pos (suc d)) (negsuc d)) k
      ∙ ap neg_ℤ (forward (suc d))

-- each sum, at every sample
pub signed_form :
    (a : ℕ) (ws : List ℕ)
    → Spread a ws
    → (n k : ℕ) (u : ℤ)
    → sums (suc n) (switched_by a ws u (neg_ℤ u)) k
    ≡ u *ℤ quot_z (differences (ws ++ (a ∷ [])) (falling (suc n)) k) (pos (factorial (suc n)))
signed_form a ws s n k (pos D) = forward a ws s (suc n) k D ∙ by_products a ws s D n k
signed_form a ws s n k (negsuc d) =
    backward a ws s (suc n) k d ∙ ap neg_ℤ (by_products a ws s (suc d) n k)
    ∙ sym (negative_times (suc d) (quot_z (differences (ws ++ (a ∷ [])) (falling (suc n)) k) (pos (factorial (suc n)))))
