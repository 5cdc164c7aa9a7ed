-- Why and where a set is refused: the claim `AxesRefusedClaim` of specs/AxesClaims.antt.
use mathlib.Core.Bool.{true, true≢false, ◌||◌}
use mathlib.Core.List.{List, [], ◌∷◌, ◌++◌, map}
use mathlib.Core.Logic.Iff
use mathlib.Core.Logic.{◌⊎◌, inl, inr}
use mathlib.Core.Path.{◌≡◌, refl, sym, ap, subst, ◌∙◌}
use Prim.Native.Nat.{ℕ, zero, suc, ◌+◌, ◌<◌}
use native.Mathlib.Omega.{arith}
use lib.Dec.{eqb, ltb}
use lib.ListN.{length, take}
use Rattle.planner.specs.Refusals.{Check, check, Each}
use Rattle.planner.specs.Order.{FirstToApply}
use Rattle.planner.specs.Axes.{most_axes, with_place, axis_checks, all_at_rest, common_samples, checks_from, axes_checks, axes_result}
use Rattle.planner.specs.AxesClaims.{axis_at, AcceptedAxis, Moving, Resting, Reason, not_a_count, all_rest, axis_refused, AxesRefusedClaim}
use Rattle.planner.specs.declared.Move.{Move}
use Rattle.planner.proofs.RefusalLaws.{Passes, passed_range, range_passes}
use Rattle.planner.proofs.OrderLaws.{first_given}
use Rattle.planner.proofs.AxisLaws.{either, by_rest, rest_resting, rest_moving, passed_axis, axis_passes}
use Rattle.planner.proofs.MovingLaws.{some_moves, not_all_rest}
use Rattle.planner.proofs.CountedLaws.{counted_at, within, below_count, moves_counted}

-- the first to apply is among the checks of an axis, or these pass and it is further on
split :
    (place n p : ℕ) (xs : List (Check ℕ)) (ys : List (Check (ℕ × ℕ)))
    → FirstToApply (n, p) (map (with_place place) xs ++ ys)
    → (FirstToApply n xs × (place ≡ p)) ⊎ (Each Passes xs × FirstToApply (n, p) ys)
split place n p [] ys h = inr (tt, h)
split place n p (check m t ∷ xs) ys (inl h) = inl (inl (h.0, ap (λ (x : ℕ × ℕ). x.0) h.1), ap (λ (x : ℕ × ℕ). x.1) h.1)
split place n p (check m t ∷ xs) ys (inr h) = further (split place n p xs ys h.1)
  where
    further :
        (FirstToApply n xs × (place ≡ p)) ⊎ (Each Passes xs × FirstToApply (n, p) ys)
        → (FirstToApply n (check m t ∷ xs) × (place ≡ p)) ⊎ (Each Passes (check m t ∷ xs) × FirstToApply (n, p) ys)
    further (inl q) = inl (inr (h.0, q.0), q.1)
    further (inr q) = inr ((h.0, q.0), q.1)

joined_here :
    (place n : ℕ) (xs : List (Check ℕ)) (ys : List (Check (ℕ × ℕ)))
    → FirstToApply n xs → FirstToApply (n, place) (map (with_place place) xs ++ ys)
joined_here place n [] ys h = absurd h
joined_here place n (check m t ∷ xs) ys (inl h) = inl (h.0, ap (λ (m : ℕ). (m, place)) h.1)
joined_here place n (check m t ∷ xs) ys (inr h) = inr (h.0, joined_here place n xs ys h.1)

joined_further :
    (place : ℕ) (x : ℕ × ℕ) (xs : List (Check ℕ)) (ys : List (Check (ℕ × ℕ)))
    → Each Passes xs → FirstToApply x ys → FirstToApply x (map (with_place place) xs ++ ys)
joined_further place x [] ys p h = h
joined_further place x (check m t ∷ xs) ys p h = inr (p.0, joined_further place x xs ys p.1 h)

-- axis i of the list is the first that is refused, with n
record FirstRefused (ms : List Move) (n i : ℕ) : Type 0 where
  counted : i < length ms
  accepted : (j : ℕ) → j < i → AcceptedAxis (axis_at ms j)
  here : FirstToApply n (axis_checks (axis_at ms i))

-- in a list from a place on
record RefusedFrom (place : ℕ) (ms : List Move) (n p : ℕ) : Type 0 where
  axis : ℕ
  place_is : place + axis ≡ p
  first : FirstRefused ms n axis

next_refused : {m : Move} {ms : List Move} {n i : ℕ} → AcceptedAxis m → FirstRefused ms n i → FirstRefused (m ∷ ms) n (suc i)
next_refused {m} {ms} {n} {i} a f = record { counted = omega (arith, f.counted); accepted = earlier; here = f.here }
  where
    earlier : (j : ℕ) → j < suc i → AcceptedAxis (axis_at (m ∷ ms) j)
    earlier zero l = a
    earlier (suc j) l = f.accepted j (omega arith)

-- the first axis of the list, or one further on
one_of :
    (place : ℕ) (m : Move) (ms : List Move) (n p : ℕ)
    → (FirstToApply n (axis_checks m) × (place ≡ p)) ⊎ (Each Passes (axis_checks m) × RefusedFrom (suc place) ms n p)
    → RefusedFrom place (m ∷ ms) n p
one_of place m ms n p (inl q) =
    record {
      axis = 0;
      place_is = omega (arith, q.1);
      first = record { counted = omega arith; accepted = λ j l. absurd (omega arith); here = q.0 };
    }
one_of place m ms n p (inr q) =
    let r = q.1 in
    record { axis = suc r.axis; place_is = omega (arith, r.place_is); first = next_refused (passed_axis m q.0) r.first }

refused_from : (place : ℕ) (ms : List Move) (n p : ℕ) → FirstToApply (n, p) (checks_from place ms) → RefusedFrom place ms n p
unfolding checks_from
refused_from place [] n p h = absurd h
refused_from place (m ∷ ms) n p h =
    one_of place m ms n p
    (elim (split place n p (axis_checks m) (checks_from (suc place) ms) h) [
      | inl q ↦ inl q
      | inr q ↦ inr (q.0, refused_from (suc place) ms n p q.1)
    ])

from_refused : (place : ℕ) (ms : List Move) (n i : ℕ) → FirstRefused ms n i → FirstToApply (n, place + i) (checks_from place ms)
unfolding checks_from
from_refused place [] n i f = absurd (omega (arith, f.counted))
from_refused place (m ∷ ms) n zero f =
    let q : place ≡ place + 0 = omega arith in
    subst (λ (p : ℕ). FirstToApply (n, p) (checks_from place (m ∷ ms))) q (joined_here place n (axis_checks m) _ f.here)
from_refused place (m ∷ ms) n (suc i) f =
    let q : suc place + i ≡ place + suc i = omega arith in
    let rest : FirstRefused ms n i = record {
      counted = omega (arith, f.counted);
      accepted = λ j l. f.accepted (suc j)
          (omega arith);
      here = f.here;
    } in
    joined_further place _ (axis_checks m) _ (axis_passes m (f.accepted 0 (omega arith)))
    (subst (λ (p : ℕ). FirstToApply (n, p) (checks_from (suc place) ms)) q (from_refused (suc place) ms n i rest))

-- all at rest
all_resting : (ms : List Move) → all_at_rest ms ≡ true → (i : ℕ) → i < length ms → Resting (axis_at ms i)
all_resting ms h i l =
    by_rest (axis_at ms i) (rest_resting (axis_at ms i))
    (λ q. absurd (true≢false (sym h ∙ not_all_rest ms i l (rest_moving (axis_at ms i) q))))

resting_all : (ms : List Move) → ((i : ℕ) → i < length ms → Resting (axis_at ms i)) → all_at_rest ms ≡ true
resting_all ms h =
    either (all_at_rest ms) (λ q. q) (λ q. let s = some_moves ms q in absurd (omega (arith, s.moves_there, h s.axis s.counted)))

module _ (count : ℕ) (moves : List Move) (sent : length moves ≡ most_axes) where
  abbrev axes : List Move
  axes = take count moves

  -- the reasons as the checks find them
  to_reason : (n p : ℕ) → FirstToApply (n, p) (axes_checks count moves) → Reason count moves n p
  to_reason n p (inl h) =
      subst (λ (x : ℕ × ℕ). Reason count moves x.0 x.1) h.1
      (not_a_count (λ one most. true≢false (sym h.0 ∙ range_passes most_axes count one most)))
  to_reason n p (inr (range, inl h)) =
      let is_in_range = passed_range most_axes count range in
      subst (λ (x : ℕ × ℕ). Reason count moves x.0 x.1) h.1
      (all_rest is_in_range.0 is_in_range.1
      (λ i l.
      subst Resting (counted_at count moves i l) (all_resting axes h.0 i (within count moves sent is_in_range.1 i l))))
  to_reason n p (inr (range, inr (move, h))) =
      let is_in_range = passed_range most_axes count range in
      let r = refused_from 1 axes n p h in
      let f = r.first in
      let counted-axis = below_count count moves sent is_in_range.1 r.axis f.counted in
      subst (Reason count moves n) (omega (arith, r.place_is))
      (axis_refused is_in_range.0 is_in_range.1 (moves_counted count moves sent is_in_range.1 (some_moves axes move))
      r.axis n counted-axis
      (λ j l. subst AcceptedAxis (counted_at count moves j (omega (arith, l, counted-axis))) (f.accepted j l))
      (subst (λ (m : Move). FirstToApply n (axis_checks m)) (counted_at count moves r.axis counted-axis) f.here))

  from_reason : (n p : ℕ) → Reason count moves n p → FirstToApply (n, p) (axes_checks count moves)
  from_reason n p (not_a_count h) =
      let applies = either (eqb count 0 || ltb most_axes count) (λ q. q)
      (λ q. let r = passed_range most_axes count q in absurd (h r.0 r.1)) in
      inl (applies, refl)
  from_reason n p (all_rest one most h) =
      let rests : (i : ℕ) → i < length axes → Resting (axis_at axes i) =
      λ i l. let c = below_count count moves sent most i l in subst Resting (sym (counted_at count moves i c)) (h i c) in
      inr (range_passes most_axes count one most, inl (resting_all axes rests, refl))
  from_reason n p (axis_refused one most moving i n' l before here) =
      let there : (j : ℕ) → j < count → axis_at moves j ≡ axis_at axes j = λ j c. sym (counted_at count moves j c) in
      let first : FirstRefused axes n' i =
      record {
        counted = within count moves sent most i l;
        accepted = λ j c. subst AcceptedAxis (there j (omega (arith, c, l))) (before j c);
        here = subst (λ (m : Move). FirstToApply n' (axis_checks m)) (there i l) here;
      } in
      let place : 1 + i ≡ suc i = omega arith in
      inr (
        range_passes most_axes count one most,
        inr (
          not_all_rest axes moving.axis (within count moves sent most _ moving.counted)
              (subst Moving (there _ moving.counted) moving.moves_there),
          subst (λ (p : ℕ). FirstToApply (n', p) (checks_from 1 axes)) place (from_refused 1 axes n' i first),
        ),
      )

pub axes_refused : (count : ℕ) (moves : List Move) → AxesRefusedClaim count moves
unfolding axes_result
axes_refused count moves sent o plans h n p =
    Iff.trans (λ q. sym h.outcome_is ∙ q, λ q. h.outcome_is ∙ q)
    (Iff.trans (first_given (ℕ × ℕ) ℕ (axes_checks count moves) (common_samples (take count moves)) (n, p))
    (to_reason count moves sent n p, from_reason count moves sent n p))
