-- From start 0 refusal 14 is never given: it asks what 2 asked before it.
use mathlib.Core.Bool.{true, false, true≢false}
use mathlib.Core.List.{List, [], ◌∷◌, ◌++◌, map}
use mathlib.Core.Logic.{inl, inr}
use mathlib.Core.Path.{◌≡◌, refl, sym, subst, ◌∙◌}
use Prim.Native.Nat.{ℕ, zero, suc}
use native.Mathlib.Omega.{arith}
use borrow.Author.Tests.{le-ltb}
use lib.Dec.{ltb}
use lib.IntN.{ℤ, pos, nat_abs, +ℤ_idl}
use lib.ListN.{length-map}
use Rattle.planner.specs.Refusals.{Check, check, Each}
use Rattle.planner.specs.Order.{FirstToApply}
use Rattle.planner.specs.Outcome.{most_samples, most_counts, out_of_range, out_of_span, ends_outside, span_check, displacement_checks, bound_checks_to_jerk, samples_of, checks, outcome_of}
use Rattle.planner.specs.Third.{third_samples_of, third_checks, third_outcome_of}
use Rattle.planner.specs.Axes.{at_rest, rest_checks, axis_checks}
use Rattle.planner.specs.AxesClaims.{axis_at, Reason, not_a_count, all_rest, axis_refused}
use Rattle.planner.specs.StartClaims.{from_zero, NeverFourteenClaim}
use Rattle.planner.specs.declared.Move.{Move}
use Rattle.planner.proofs.OrderLaws.{first_given}
use Rattle.planner.proofs.AxisLaws.{by_rest, rest_resting, chosen}
use Rattle.planner.proofs.AxesRefused.{axes_refused}

zero_ends : (X : ℤ) → ends_outside X (pos 0) ≡ out_of_span X
zero_ends X = rw (+ℤ_idl X) refl

-- if the check applies, it is not that of n
abbrev NotOf : ℕ → Check ℕ → Type 0
NotOf n (check number applies) = applies ≡ true → number ≡ n → ⊥

not_first : (n : ℕ) (xs : List (Check ℕ)) → Each (NotOf n) xs → FirstToApply n xs → ⊥
not_first n [] h f = f
not_first n (check number applies ∷ xs) h f = elim f [ inl p ↦ h.0 p.0 p.1 | inr p ↦ not_first n xs h.1 p.1 ]

-- past 1 and 2 the displacement is in the span
past_two : (X : ℤ) (xs : List (Check ℕ)) → FirstToApply 14 (displacement_checks X ++ xs) → (out_of_span X ≡ false) × FirstToApply 14 xs
past_two X xs f =
    elim f [
      | inl p ↦ absurd (omega (arith, p.1))
      | inr p ↦ elim p.1 [ inl q ↦ absurd (omega (arith, q.1)) | inr q ↦ q ]
    ]

module _ (m : Move) where
  abbrev X : ℤ
  X = m.displacement

  inside : out_of_span X ≡ false → NotOf 14 (span_check X (pos 0))
  inside near t e = true≢false (sym t ∙ zero_ends X ∙ near)

  -- the bounds that both orders read, and after them the checks xs
  abbrev bounds : List (Check ℕ) → List (Check ℕ)
  bounds xs = bound_checks_to_jerk m.velocity m.acceleration m.jerk ++ xs

  past_bounds : (xs : List (Check ℕ)) → Each (NotOf 14) xs → FirstToApply 14 (bounds xs) → ⊥
  past_bounds xs h = not_first 14 (bounds xs) (λ t e. omega (arith, e), (λ t e. omega (arith, e), (λ t e. omega (arith, e), h)))

  abbrev last : (N : ℕ) → List (Check ℕ)
  last N = span_check X (pos 0) ∷ check 7 (ltb most_samples N) ∷ []

  last_not : out_of_span X ≡ false → (N : ℕ) → Each (NotOf 14) (last N)
  last_not near N = (inside near, (λ t e. omega (arith, e), tt))

  abbrev snap_check : Check ℕ
  snap_check = check 6 (out_of_range m.snap)

  snap_not : NotOf 14 snap_check
  snap_not t e = omega (arith, e)

  fourth_not : FirstToApply 14 (checks (from_zero m)) → ⊥
  fourth_not f =
      let N = samples_of (from_zero m) in
      let p = past_two X (bounds (snap_check ∷ last N)) f in
      past_bounds (snap_check ∷ last N) (snap_not, last_not p.0 N) p.1

  third_not : FirstToApply 14 (third_checks (from_zero m)) → ⊥
  third_not f =
      let N = third_samples_of (from_zero m) in
      let p = past_two X (bounds (last N)) f in
      past_bounds (last N) (last_not p.0 N) p.1

  resting_not : at_rest m ≡ true → FirstToApply 14 (rest_checks (from_zero m)) → ⊥
  resting_not h f =
      let near : out_of_span X ≡ false = le-ltb most_counts (nat_abs X) (omega (arith, rest_resting m h)) in
      past_bounds (snap_check ∷ span_check X (pos 0) ∷ []) (snap_not, (inside near, tt)) f

  axis_not : FirstToApply 14 (axis_checks (from_zero m)) → ⊥
  axis_not f =
      by_rest m
      (λ h. resting_not h (subst (FirstToApply 14) (chosen (rest_checks (from_zero m)) (checks (from_zero m)) h) f))
      (λ h. fourth_not (subst (FirstToApply 14) (chosen (rest_checks (from_zero m)) (checks (from_zero m)) h) f))

-- axis i of a set
pub axis_from_zero : (moves : List Move) (i : ℕ) → axis_at (map from_zero moves) i ≡ from_zero (axis_at moves i)
axis_from_zero [] i = refl
axis_from_zero (m ∷ moves) zero = refl
axis_from_zero (m ∷ moves) (suc i) = axis_from_zero moves i

no_reason : (count : ℕ) (moves : List Move) (n place : ℕ) → Reason count (map from_zero moves) n place → n ≡ 14 → ⊥
no_reason count moves _ _ (not_a_count h) e = omega (arith, e)
no_reason count moves _ _ (all_rest from most h) e = omega (arith, e)
no_reason count moves _ _ (axis_refused from most some i n l before f) e =
    axis_not (axis_at moves i)
    (subst (λ (m : Move). FirstToApply 14 (axis_checks m)) (axis_from_zero moves i)
    (subst (λ (n : ℕ). FirstToApply n (axis_checks (axis_at (map from_zero moves) i))) e f))

pub never_fourteen : NeverFourteenClaim
unfolding outcome_of third_outcome_of
never_fourteen =
    record {
      fourth = λ m h. fourth_not m ((first_given ℕ _ (checks (from_zero m)) _ 14).0 (sym h.outcome_is));
      third = λ m h. third_not m ((first_given ℕ _ (third_checks (from_zero m)) _ 14).0 (sym h.outcome_is));
      axes = λ count moves sent place plans h.
          no_reason count moves 14 place
          ((axes_refused count (map from_zero moves) (length-map moves from_zero ∙ sent) _ plans h 14 place).0 refl) refl;
    }
