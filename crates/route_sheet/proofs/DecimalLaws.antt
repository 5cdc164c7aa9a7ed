-- The equations of `decimal`, and how long one is.
use mathlib.Core.Bool.{Bool, true, false}
use mathlib.Core.List.{List, [], ◌∷◌, ◌++◌}
use mathlib.Core.Logic.{◌↔◌}
use mathlib.Core.Path.{◌≡◌, refl, ap, ◌∙◌, sym}
use Prim.Native.Nat.{ℕ, zero, suc, ◌+◌, ◌*◌, ◌/◌, ◌%◌, ◌^◌, ◌≤◌, ◌<◌}
use native.Mathlib.Omega.{arith}
use native.Mathlib.Nat.{pow-suc, one-le-pow, div-lt_iff_lt-mul}
use borrow.Author.Tests.{ltb-true, ltb-false, lt-ltb, le-ltb}
use lib.Dec.{ltb, lit<}
use lib.IntN.{ℤ, pos, negsuc, nat_abs}
use lib.ListN.{length, length-append}
use Rattle.route_sheet.specs.Text.{digit, digits_up_to, decimal, signed_decimal}
use Rattle.route_sheet.specs.Claims.{DecimalClaim}

-- One step of `digits_up_to`, with the test's value.
step : (most n : ℕ) → Bool → List ℕ
step most n true = digit n ∷ []
step most n false = digits_up_to most (n / 10) ++ (digit (n % 10) ∷ [])

stepped : (most n : ℕ) (t : Bool) → ltb n 10 ≡ t → digits_up_to (suc most) n ≡ step most n t
unfolding step
stepped most n true e = unfold digits_up_to in rw (e, digits_up_to)
stepped most n false e = unfold digits_up_to in rw (e, digits_up_to)

enough : (m k n : ℕ) → n < m → n < k → digits_up_to m n ≡ digits_up_to k n
unfolding step
enough zero k n h l = absurd (omega arith)
enough (suc m) zero n h l = absurd (omega arith)
enough (suc m) (suc k) n h l = same (ltb n 10) refl (enough m k (n / 10))
  where
    same :
        (t : Bool) → ltb n 10 ≡ t → (n / 10 < m → n / 10 < k → digits_up_to m (n / 10) ≡ digits_up_to k (n / 10)) →
        digits_up_to (suc m) n ≡ digits_up_to (suc k) n
    same true e less = stepped m n true e ∙ sym (stepped k n true e)
    same false e less =
        stepped m n false e
        ∙ ap (λ (l : List ℕ). l ++ (digit (n % 10) ∷ [])) (less (omega (arith, ltb-false)) (omega (arith, ltb-false)))
        ∙ sym (stepped k n false e)

pub one_step : (k n : ℕ) → n < 10 → digits_up_to (suc k) n ≡ digit n ∷ []
unfolding step
one_step k n h = stepped k n true (lt-ltb n 10 h)

pub more_step : (k n : ℕ) → 10 ≤ n → digits_up_to (suc k) n ≡ digits_up_to k (n / 10) ++ (digit (n % 10) ∷ [])
unfolding step
more_step k n h = stepped k n false (le-ltb n 10 h)

pub decimal_digit : (n : ℕ) → n < 10 → decimal n ≡ digit n ∷ []
unfolding decimal step
decimal_digit n h = stepped n n true (lt-ltb n 10 h)

pub decimal_more : (n : ℕ) → 10 ≤ n → decimal n ≡ decimal (n / 10) ++ (digit (n % 10) ∷ [])
unfolding decimal step
decimal_more n h =
    stepped n n false (le-ltb n 10 h)
    ∙ ap (λ (l : List ℕ). l ++ (digit (n % 10) ∷ [])) (enough n (suc (n / 10)) (n / 10) (omega arith) (omega arith))

-- A digit more.
pub decimal_with : (m d : ℕ) → 0 < m → d < 10 → decimal (10 * m + d) ≡ decimal m ++ (digit d ∷ [])
decimal_with m d h l =
    let q : (10 * m + d) / 10 ≡ m = omega arith in
    let r : (10 * m + d) % 10 ≡ d = omega arith in
    decimal_more (10 * m + d) (omega arith) ∙ rw (q, r)

-- Induction over a number's digits.
pub by_digits :
    (P : ℕ → Type 0) → ((n : ℕ) → n < 10 → P n) → ((n : ℕ) → 10 ≤ n → P (n / 10) → P n) → (n : ℕ) → P n
by_digits P one more n = go (suc n) n (omega arith)
  where
    go : (bound n : ℕ) → n < bound → P n
    go zero n h = absurd (omega arith)
    go (suc bound) n h = cases (ltb n 10) refl (go bound (n / 10))
      where
        cases : (t : Bool) → ltb n 10 ≡ t → (n / 10 < bound → P (n / 10)) → P n
        cases true e less = one n (ltb-true n 10 e)
        cases false e less = more n (ltb-false n 10 e) (less (omega (arith, ltb-false)))

-- A number below 10^k has at most k digits.
pub decimal_length : (k n : ℕ) → n < 10 ^ suc k → length (decimal n) ≤ suc k
decimal_length zero n h = rw (decimal_digit n h) (omega arith)
decimal_length (suc k) n h = cases (ltb n 10) refl (decimal_length k (n / 10))
  where
    cases : (t : Bool) → ltb n 10 ≡ t → (n / 10 < 10 ^ suc k → length (decimal (n / 10)) ≤ suc k) → length (decimal n) ≤ suc (suc k)
    cases true e less = rw (decimal_digit n (ltb-true n 10 e)) (omega arith)
    cases false e less =
        let small : n / 10 < 10 ^ suc k = (div-lt_iff_lt-mul (lit< tt)).1 (rw pow-suc at h) in
        rw (decimal_more n (ltb-false n 10 e), length-append) (omega (arith, less small))

-- A minus is one byte more.
pub signed_length : (x : ℤ) → length (signed_decimal x) ≤ 1 + length (decimal (nat_abs x))
unfolding signed_decimal
signed_length (pos n) = omega arith
signed_length (negsuc n) = omega arith

-- And a number of at most k digits is below 10^k.
pub some_digit : (n : ℕ) → 0 < length (decimal n)
some_digit =
    by_digits (λ n. 0 < length (decimal n)) (λ n h. rw (decimal_digit n h) (omega arith))
    (λ n h ih. rw (decimal_more n h, length-append) (omega arith))

decimal_below : (k n : ℕ) → length (decimal n) ≤ k → n < 10 ^ k
decimal_below zero n h = absurd (omega (arith, some_digit n))
decimal_below (suc k) n h = cases (ltb n 10) refl (decimal_below k (n / 10))
  where
    cases : (t : Bool) → ltb n 10 ≡ t → (length (decimal (n / 10)) ≤ k → n / 10 < 10 ^ k) → n < 10 ^ suc k
    cases true e less = rw pow-suc (omega (arith, ltb-true n 10 e, one-le-pow k 10 (lit< tt)))
    cases false e less =
        let short : length (decimal (n / 10)) + 1 ≤ suc k = rw (decimal_more n (ltb-false n 10 e), length-append) at h in
        rw pow-suc ((div-lt_iff_lt-mul (lit< tt)).0 (less (omega arith)))

at_most_digits : (n k : ℕ) → 1 ≤ k → (length (decimal n) ≤ k) ↔ (n < 10 ^ k)
at_most_digits n zero h = absurd (omega arith)
at_most_digits n (suc k) h = (decimal_below (suc k) n, decimal_length k n)

pub decimal_claim : (n : ℕ) → DecimalClaim n
decimal_claim n = record { one_digit = decimal_digit n; more_digits = decimal_more n; at_most_digits = at_most_digits n }
