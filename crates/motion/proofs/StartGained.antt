-- What the entries give from a start is what they give from 0, with the start added: to samples, positions, reference rows and axes.
use mathlib.Core.List.{List, [], ◌∷◌, map}
use mathlib.Core.Path.{◌≡◌, refl, sym, ap, ap₂, ◌∙◌}
use Prim.Native.Nat.{ℕ, zero, suc, ◌<◌}
use native.Mathlib.Omega.{arith}
use lib.IntN.{ℤ, pos, ◌+ℤ◌, ◌*ℤ◌, +ℤ_idl}
use lib.ListN.{length, get_or, take, length-map}
use Rattle.std.specs.Prelude.{Ok}
use Rattle.planner.specs.Outcome.{intervals_of, samples_of}
use Rattle.planner.specs.Third.{third_intervals_of, third_samples_of}
use Rattle.planner.specs.Axes.{most_axes, common_samples}
use Rattle.planner.specs.AxesClaims.{axis_at}
use Rattle.planner.specs.StartClaims.{from_zero}
use Rattle.planner.specs.declared.Move.{Move}
use Rattle.planner.proofs.NeverFourteen.{axis_from_zero}
use Rattle.planner.proofs.OnePlan.{common_unread}
use Rattle.motion.specs.Sampling.{Values, values_of, third_values_of, units_of, position_from, Motion, fourth_order, third_order, Samples}
use Rattle.motion.specs.Tables.{reference_row, FillsPositions, FillsReference}
use Rattle.motion.specs.Axes.{rest_sample, axis_values, SamplesAxes}
use Rattle.motion.specs.StartClaims.{gained, GainedClaim}
use Rattle.motion.specs.declared.Sample.{Sample}
use Rattle.motion.proofs.IntegerLaws.{exchanged, doubled_sum}
use Rattle.motion.proofs.RoundingLaws.{rounding_of}
use Rattle.motion.proofs.RoundedValues.{with_rounding}
use Rattle.motion.proofs.AxisSampling.{axis_row}
use Rattle.motion.proofs.FillLaws.{filled_rows, filled_at}
use Rattle.motion.proofs.GivenSamples.{rule_sample_lem, rule_row}

-- a position from 0 is its distance
added : (start d : ℤ) → position_from start d ≡ units_of start +ℤ position_from (pos 0) d
added start d = ap (λ (x : ℤ). units_of start +ℤ x) (sym (+ℤ_idl d))

twice_added : (start a b : ℤ) → position_from start a +ℤ position_from start b ≡ pos 2 *ℤ units_of start +ℤ (position_from (pos 0) a +ℤ position_from (pos 0) b)
twice_added start a b =
    ap₂ (λ (x y : ℤ). x +ℤ y) (added start a) (added start b)
    ∙ exchanged (units_of start) (position_from (pos 0) a) (units_of start) (position_from (pos 0) b)
    ∙ ap (λ (u : ℤ). u +ℤ (position_from (pos 0) a +ℤ position_from (pos 0) b)) (sym (doubled_sum (units_of start)))

rounded : (start : ℤ) (v : Values) → with_rounding start v ≡ gained start (with_rounding (pos 0) v)
rounded start v =
    let r = rounding_of v.position in
    let count_is = ap (λ (c : ℤ). start +ℤ c) (sym (+ℤ_idl r.count)) in
    λ i.
    record {
      snap = v.snap;
      jerk = v.jerk;
      acceleration = v.acceleration;
      velocity = v.velocity;
      position = added start v.position i;
      count = count_is i;
      remainder = r.remainder;
    }

-- two motions with the same values, the second from 0
module _
    (x y : Motion) (zero : y.start ≡ pos 0) (samples : y.samples ≡ x.samples) (values : y.values ≡ x.values)
  where
    sample_gained : {k : ℕ} {s z : Sample} → Samples x k (Ok s) → Samples y k (Ok z) → s ≡ gained x.start z
    sample_gained {k} p q =
        rule_sample_lem x p ∙ rounded x.start (x.values k)
        ∙ ap (gained x.start)
        (sym (rule_sample_lem y q ∙ ap₂ (λ (u : ℤ) (v : ℕ → Values). with_rounding u (v k)) zero values))

    positions_gained :
        (old old' new new' : List ℤ) (n n' : ℕ)
        → FillsPositions x old (Ok n) new → FillsPositions y old' (Ok n') new'
        → (k : ℕ) → k < n → get_or new k (pos 0) ≡ units_of x.start +ℤ get_or new' k (pos 0)
    unfolding FillsPositions
    positions_gained old old' new new' n n' p q k l =
        let rows = filled_rows p in
        let rows' = filled_rows q in
        filled_at p (pos 0) k l ∙ added x.start (x.values k).position
        ∙ ap (λ (z : ℤ). units_of x.start +ℤ z)
        (sym (filled_at q (pos 0) k (omega (arith, rows, rows', samples))
        ∙ ap₂ (λ (u : ℤ) (v : ℕ → Values). position_from u (v k).position) zero values))

    reference_gained :
        (old old' new new' : List ℤ) (n n' : ℕ)
        → FillsReference x old (Ok n) new → FillsReference y old' (Ok n') new'
        → (k : ℕ) → k < n → get_or new k (pos 0) ≡ pos 2 *ℤ units_of x.start +ℤ get_or new' k (pos 0)
    unfolding FillsReference reference_row
    reference_gained old old' new new' n n' p q k l =
        let rows = filled_rows p in
        let rows' = filled_rows q in
        filled_at p (pos 0) k l ∙ twice_added x.start _ _
        ∙ ap (λ (z : ℤ). pos 2 *ℤ units_of x.start +ℤ z)
        (sym (filled_at q (pos 0) k (omega (arith, rows, rows', samples))
        ∙ ap (λ (u : ℤ). reference_row u y.samples y.values k) zero
        ∙ ap₂ (λ (N : ℕ) (v : ℕ → Values). reference_row (pos 0) N v k) samples values))

-- the first moves, with the start left out or not
taken : (count : ℕ) (moves : List Move) → take count (map from_zero moves) ≡ map from_zero (take count moves)
taken zero moves = refl
taken (suc count) [] = refl
taken (suc count) (m ∷ moves) = ap (λ (xs : List Move). from_zero m ∷ xs) (taken count moves)

axis_values_lem : (n : ℕ) (m : Move) → axis_values n (from_zero m) ≡ axis_values n m
unfolding axis_values intervals_of
axis_values_lem n m = refl

module _ (count : ℕ) (moves : List Move) (sent : length moves ≡ most_axes) where
  common_is : common_samples (take count (map from_zero moves)) ≡ common_samples (take count moves)
  common_is = ap common_samples (taken count moves) ∙ common_unread (take count moves)

  axis_gained :
      {k : ℕ} {samples zeros : List Sample}
      → SamplesAxes count moves k (Ok tt) samples → SamplesAxes count (map from_zero moves) k (Ok tt) zeros
      → (i : ℕ) → i < count
      → get_or samples i (rest_sample (pos 0)) ≡ gained (axis_at moves i).start (get_or zeros i (rest_sample (pos 0)))
  axis_gained {k} p q i l =
      let m = axis_at moves i in
      let n = common_samples (take count moves) in
      let own : axis_row n (from_zero m) k ≡ with_rounding (pos 0) (axis_values n m k) =
      ap (λ (v : ℕ → Values). with_rounding (pos 0) (v k)) (axis_values_lem n m) in
      let row =
      rule_row (length-map moves from_zero ∙ sent) q l
      ∙ ap₂ (λ (n : ℕ) (m : Move). axis_row n m k) common_is (axis_from_zero moves i) ∙ own in
      rule_row sent p l ∙ rounded m.start (axis_values n m k) ∙ ap (gained m.start) (sym row)

pub start_gained : GainedClaim
unfolding samples_of third_samples_of intervals_of third_intervals_of values_of third_values_of
start_gained =
    record {
      fourth = λ m.
          let x = fourth_order m in
          let y = fourth_order (from_zero m) in
          record {
            sample = λ k s z. sample_gained x y refl refl refl;
            positions = positions_gained x y refl refl refl;
            reference = reference_gained x y refl refl refl;
          };
      third = λ m.
          let x = third_order m in
          let y = third_order (from_zero m) in
          record {
            sample = λ k s z. sample_gained x y refl refl refl;
            positions = positions_gained x y refl refl refl;
            reference = reference_gained x y refl refl refl;
          };
      axes = λ count moves sent k samples zeros. axis_gained count moves sent;
    }
