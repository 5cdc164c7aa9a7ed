-- A function and another that is delayed by w samples, for each width w: their sums, and any two others with the same difference.
use mathlib.Core.Path.{◌≡◌, refl, sym, ap₂, ◌∙◌}
use mathlib.Core.List.{List, [], ◌∷◌, ◌++◌}
use Prim.Native.Nat.{ℕ, ◌+◌, ◌-◌, ◌*◌}
use native.Mathlib.Nat.{zero-sub, mul-add}
use native.Mathlib.Omega.{arith}
use Rattle.profile.specs.Inner.Widths.{total}
use Rattle.profile.proofs.Totals.{total_late}

-- f, with g delayed by each width, and f delayed again by two; g comes to `delays ws g f`. Both start at 0, so that k - w is right
-- before w too
unfoldable pub delays : List ℕ → (f g : ℕ → ℕ) → ℕ → ℕ
delays [] f g k = f k
delays (w ∷ ws) f g k = delays ws f g k + delays ws g f (k - w)

delays_start : (ws : List ℕ) (f g : ℕ → ℕ) → f 0 ≡ 0 → g 0 ≡ 0 → delays ws f g 0 ≡ 0
unfolding delays
delays_start [] f g p q = p
delays_start (w ∷ ws) f g p q = rw zero-sub (omega (arith, delays_start ws f g p q, delays_start ws g f q p))

pub delays_total : (ws : List ℕ) (f g : ℕ → ℕ) → f 0 ≡ 0 → g 0 ≡ 0 → (k : ℕ) → total (delays ws f g) k ≡ delays ws (total f) (total g) k
unfolding delays
delays_total [] f g p q k = refl
delays_total (w ∷ ws) f g p q k =
    total_late (delays ws f g) (delays ws g f) w k (delays_start ws g f q p)
    ∙ ap₂ ◌+◌ (delays_total ws f g p q k) (delays_total ws g f q p (k - w))

-- f, and g delayed by w
abbrev pub delay : ℕ → (f g : ℕ → ℕ) → ℕ → ℕ
delay w f g k = f k + g (k - w)

pub delays_inner : (ws : List ℕ) (w : ℕ) (f g : ℕ → ℕ) (k : ℕ) → delays (ws ++ (w ∷ [])) f g k ≡ delays ws (delay w f g) (delay w g f) k
unfolding delays
delays_inner [] w f g k = refl
delays_inner (v ∷ ws) w f g k = ap₂ ◌+◌ (delays_inner ws w f g k) (delays_inner ws w g f (k - v))

-- the sum, with the innermost width taken first
pub delays_summed :
    (ws : List ℕ) (w : ℕ) (f g : ℕ → ℕ)
    → f 0 ≡ 0
    → g 0 ≡ 0
    → (k : ℕ)
    → total (delays (ws ++ (w ∷ [])) f g) k ≡ delays ws (delay w (total f) (total g)) (delay w (total g) (total f)) k
delays_summed ws w f g p q k = delays_total (ws ++ (w ∷ [])) f g p q k ∙ delays_inner ws w (total f) (total g) k

-- where f − g is h − l, it stays so
pub delays_same :
    (ws : List ℕ) (f g h l : ℕ → ℕ)
    → ((k : ℕ) → f k + l k ≡ g k + h k)
    → (k : ℕ)
    → delays ws f g k + delays ws l h k ≡ delays ws g f k + delays ws h l k
unfolding delays
delays_same [] f g h l e k = e k
delays_same (w ∷ ws) f g h l e k = omega (arith, delays_same ws f g h l e k, delays_same ws f g h l e (k - w))

-- what is m times f and g comes to m times as much
pub delays_times :
    (ws : List ℕ) (m : ℕ) (f g h l : ℕ → ℕ)
    → ((k : ℕ) → h k ≡ m * f k)
    → ((k : ℕ) → l k ≡ m * g k)
    → (k : ℕ)
    → delays ws h l k ≡ m * delays ws f g k
unfolding delays
delays_times [] m f g h l p q k = p k
delays_times (w ∷ ws) m f g h l p q k =
    ap₂ ◌+◌ (delays_times ws m f g h l p q k) (delays_times ws m g f l h q p (k - w))
    ∙ sym (mul-add m (delays ws f g k) (delays ws g f (k - w)))
