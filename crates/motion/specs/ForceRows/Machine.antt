-- Document 01, "Force rows": the machine, and which machines are in range.
use Rattle.std.specs.Prelude.{Bool, false, cond, ◌&&◌, pos, negsuc, Float}
use Rattle.std.specs.Float.{fin}
use Rattle.std.specs.Float.Ieee.{eq, le}
use Rattle.std.specs.Float.Ieee.Scale.{finite}

-- "masses m1 and m2, dampings k1, k2 and k12, stiffness c", as numbers of any kind.
pub record Machine (A : Type 0) : Type 0 where
  pub m1 : A
  pub m2 : A
  pub k1 : A
  pub k2 : A
  pub k12 : A
  pub c : A

abbrev pub map_machine : {A B : Type 0} → (A → B) → Machine A → Machine B
map_machine f m = record { m1 = f m.m1; m2 = f m.m2; k1 = f m.k1; k2 = f m.k2; k12 = f m.k12; c = f m.c }

-- A finite float is a sign, m and e for m·2^e: +0, 2^20 and 2^−20.
abbrev pub plus_zero : Float
plus_zero = fin false 0 (pos 0)

abbrev pub most : Float
most = fin false 1 (pos 20)

abbrev pub least_stiffness : Float
least_stiffness = fin false 1 (negsuc 19)

-- "Minus zero is read as plus zero." Both zeros, and nothing else, equal zero.
unfoldable pub as_read : Float → Float
as_read x = cond (eq x plus_zero) plus_zero x

unfoldable pub machine_as_read : Machine Float → Machine Float
machine_as_read = map_machine as_read

-- "finite, at least 0 and at most 2^20"
unfoldable pub in_range : Float → Bool
in_range x = finite x && le plus_zero x && le x most

-- "Each is finite, at least 0 and at most 2^20, and c is at least 2^−20."
unfoldable pub machine_in_range : Machine Float → Bool
machine_in_range m =
    in_range m.m1
    && in_range m.m2
    && in_range m.k1
    && in_range m.k2
    && in_range m.k12
    && in_range m.c
    && le least_stiffness m.c
