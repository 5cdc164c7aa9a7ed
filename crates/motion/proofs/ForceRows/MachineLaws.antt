-- Which machines are in range, and which drive they have.
use mathlib.Core.Bool.{Bool, true, false, true≢false, cond, ◌&&◌}
use mathlib.Core.Path.{◌≡◌, refl, sym, ap, subst}
use lib.Dec.{T}
use lib.Ieee.{Float, nan, inf, fin, lt, eq, le}
use lib.Ieee.Scale.{finite}
use lib.Ieee.Fits.{and_l, and_r}
use lib.Ieee.Positive.{positive, between}
use Rattle.motion.specs.ForceRows.Machine.{Machine, least_stiffness, most, plus_zero, as_read, in_range, machine_in_range}
use Rattle.motion.specs.ForceRows.Force.{rigid, filtered, alpha, beta, drive_of}

module _ (x : Float) where
  pub zero_read : eq x plus_zero ≡ true → plus_zero ≡ as_read x
  unfolding as_read
  zero_read h = sym (ap (λ (b : Bool). cond b plus_zero x) h)

  pub other_read : eq x plus_zero ≡ false → x ≡ as_read x
  unfolding as_read
  other_read h = sym (ap (λ (b : Bool). cond b plus_zero x) h)

-- a number from 0 on is no NaN, and no infinity is in range
pub from_zero : (x : Float) → le plus_zero x ≡ true → le x most ≡ in_range x
unfolding in_range le lt eq
from_zero nan h = absurd (true≢false (sym h))
from_zero (inf true) h = absurd (true≢false (sym h))
from_zero (inf false) h = refl
from_zero (fin s m e) h = sym (ap (λ (b : Bool). b && le (fin s m e) most) h)

pub below_zero : (x : Float) → le plus_zero x ≡ false → false ≡ in_range x
unfolding in_range
below_zero nan h = refl
below_zero (inf s) h = refl
below_zero (fin s m e) h = sym (ap (λ (b : Bool). b && le (fin s m e) most) h)

module _ (k12 c : Float) where
  pub is_rigid : eq k12 plus_zero ≡ true → rigid c ≡ drive_of k12 c
  unfolding drive_of
  is_rigid h = rw h refl

  pub is_filtered : eq k12 plus_zero ≡ false → filtered (alpha k12 c) (beta k12 c) ≡ drive_of k12 c
  unfolding drive_of
  is_filtered h = rw h refl

-- a machine in range, number by number
pub record InRange (m : Machine Float) : Type 0 where
  pub m1 : T (in_range m.m1)
  pub m2 : T (in_range m.m2)
  pub k1 : T (in_range m.k1)
  pub k2 : T (in_range m.k2)
  pub k12 : T (in_range m.k12)
  pub c : T (in_range m.c)
  pub stiff : T (le least_stiffness m.c)

each : (a b c d e f g : Bool) → T (a && b && c && d && e && f && g) → T a × T b × T c × T d × T e × T f × T g
each true true true true true true g h = (tt, tt, tt, tt, tt, tt, h)
each true true true true true false g h = absurd h
each true true true true false f g h = absurd h
each true true true false e f g h = absurd h
each true true false d e f g h = absurd h
each true false c d e f g h = absurd h
each false b c d e f g h = absurd h

pub is_in_range : (m : Machine Float) → machine_in_range m ≡ true → InRange m
unfolding machine_in_range
is_in_range m h =
    let t =
    each (in_range m.m1) (in_range m.m2) (in_range m.k1) (in_range m.k2) (in_range m.k12) (in_range m.c)
    (le least_stiffness m.c) (subst T (sym h) tt) in
    record { m1 = t.0; m2 = t.1; k1 = t.2; k2 = t.3; k12 = t.4; c = t.5; stiff = t.6 }

-- a number in range lies between 0 and 2^20
pub range_parts : (x : Float) → T (in_range x) → T (le plus_zero x) × T (le x most)
unfolding in_range
range_parts x h =
    (and_r (finite x) (le plus_zero x) (and_l (finite x && le plus_zero x) (le x most) h), and_r (finite x && le plus_zero x) (le x most) h)

-- the stiffness of a machine in range is a number above 0
pub stiffness_positive : (m : Machine Float) → InRange m → T (positive m.c)
stiffness_positive m r = between least_stiffness m.c most tt tt r.stiff (range_parts m.c r.c).1
