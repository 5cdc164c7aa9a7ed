-- Laws of the search over a span: what it finds is `least`, the span may be halved, and it need not go past the target.
use mathlib.Core.Path.{◌≡◌, sym, subst}
use mathlib.Core.Logic.{⊎_elim}
use Prim.Native.Nat.{ℕ, ◌+◌, ◌≤◌, ◌<◌, ◌-◌, min, max}
use native.Mathlib.Nat.{le_refl, eq-or-lt_of_le}
use native.Mathlib.Omega.{arith}
use native.Mathlib.Decide.{dec_le}
use Rattle.planner.specs.Least.{IsLeast}
use Rattle.planner.specs.Inner.Search.{LeastWithin}

-- the reach grows with n
abbrev pub Rising : (ℕ → ℕ) → Type 0
Rising reach = (m n : ℕ) → m ≤ n → reach m ≤ reach n

module _ {t : ℕ} {reach : ℕ → ℕ} where
  -- what a search from lo to hi finds is `least`, but not below lo and not above hi
  pub within_least :
      {lo hi r m : ℕ} → Rising reach → 1 ≤ lo → lo ≤ hi → IsLeast t reach m → LeastWithin t reach lo hi r → r ≡ max lo (min hi m)
  within_least {lo} {hi} {r} {m} up one h l w = by_order (dec_le m r) (dec_le r lo) (dec_le hi r)
    where
      -- past lo, the number before r does not reach t
      not_after : m < r → lo < r → ⊥
      not_after k j = omega (arith, l.reaches, up m (r - 1) (omega arith), w.before (r - 1) (omega arith) (omega arith))

      not_before : r < m → r < hi → ⊥
      not_before k j = omega (arith, w.here j, l.none_before r (omega (arith, w.low)) k)

      by_order : Dec (m ≤ r) → Dec (r ≤ lo) → Dec (hi ≤ r) → r ≡ max lo (min hi m)
      by_order (yes k) (yes i) d = omega (arith, w.low, w.high)
      by_order (yes k) (no i) d =
          ⊎_elim (λ (q : m ≡ r). omega (arith, w.low, w.high)) (λ (q : m < r). absurd (not_after q (omega arith))) (eq-or-lt_of_le k)
      by_order (no k) i (yes d) = omega (arith, w.low, w.high)
      by_order (no k) i (no d) = absurd (not_before (omega arith) (omega arith))

  -- the halving search: one number is left; the middle reaches t; the middle does not
  pub within_one : {lo hi : ℕ} → lo ≡ hi → LeastWithin t reach lo hi lo
  within_one {lo} {hi} q =
      record { low = le_refl lo; high = omega arith; before = λ n l h. absurd (omega arith); here = λ h. absurd (omega arith) }

  pub within_left : {lo mid hi r : ℕ} → mid ≤ hi → t ≤ reach mid → LeastWithin t reach lo mid r → LeastWithin t reach lo hi r
  within_left {lo} {mid} {hi} {r} h k w =
      record {
        low = w.low;
        high = omega (arith, w.high);
        before = w.before;
        here = λ _. ⊎_elim (λ (q : r ≡ mid). subst (λ (n : ℕ). t ≤ reach n) (sym q) k) w.here (eq-or-lt_of_le w.high);
      }

  -- The middle does not reach t: what is least from a number up to the one past the middle on is least from lo on. It holds for each such
  -- number, so that a loop that goes on from a wrong one fails where it must end.
  pub within_right :
      {lo from hi r : ℕ} (mid : ℕ) → Rising reach → lo ≤ from → from ≤ mid + 1 → reach mid < t → LeastWithin t reach from hi r
      → LeastWithin t reach lo hi r
  within_right {lo} {from} {hi} {r} mid up l f k w =
      record {
        low = omega (arith, w.low);
        high = w.high;
        before = λ n a b. before_by n b (dec_le n mid);
        here = w.here;
      }
    where
      before_by : (n : ℕ) → n < r → Dec (n ≤ mid) → reach n < t
      before_by n b (yes h) = omega (arith, up n mid h)
      before_by n b (no h) = w.before n (omega arith) b

  -- where n ≤ reach n the span need not go past the target
  pub within_target :
      {lo hi to r : ℕ} → ((n : ℕ) → n ≤ reach n) → to ≡ min hi (max lo t) → LeastWithin t reach lo to r → LeastWithin t reach lo hi r
  within_target {lo} {hi} {to} {r} up e w = by_order (dec_le hi (max lo t))
    where
      by_order : Dec (hi ≤ max lo t) → LeastWithin t reach lo hi r
      by_order (yes h) = subst (λ (n : ℕ). LeastWithin t reach lo n r) (omega arith) w
      by_order (no h) = within_left (omega arith) (omega (arith, up to)) w
