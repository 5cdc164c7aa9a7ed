-- The places of a reading, and the route that they list.
use mathlib.Core.List.{List, [], ◌∷◌, ◌++◌}
use mathlib.Core.Path.{◌≡◌, refl}
use Prim.Native.Nat.{ℕ, zero, suc, ◌-◌, ◌≤◌}
use native.Mathlib.Omega.{arith}
use lib.ListN.{length, take, get_or, replicate}
use lib.Seq.{take_at}
use Rattle.planner.specs.Refusals.{Each, padded}
use Rattle.route_sheet.specs.Sheet.{Sheet, Within, most_sets, most_moves, MoveAllowed, SheetAllowed}
use Rattle.route_sheet.specs.Answer.{zero_move}
use Rattle.route_sheet.specs.Inner.Route.{RouteListed}
use Rattle.route_sheet.specs.declared.RouteMove.{RouteMove}

-- The places that are padded: the first ones, and the default in the others.
pub take_padded : {A : Type 0} (places n : ℕ) (d : A) (xs : List A) → length xs ≡ n → take n (padded places d xs) ≡ xs
take_padded places n d xs e = take_at xs (replicate (places - length xs) d) n e

get_d_default : {A : Type 0} (k i : ℕ) (d : A) → get_or (replicate k d) i d ≡ d
get_d_default zero i d = refl
get_d_default (suc k) zero d = refl
get_d_default (suc k) (suc i) d = get_d_default k i d

pub get_d_padded : {A : Type 0} (k i : ℕ) (d : A) (xs : List A) → get_or (xs ++ replicate k d) i d ≡ get_or xs i d
get_d_padded k i d [] = get_d_default k i d
get_d_padded k zero d (x ∷ xs) = refl
get_d_padded k (suc i) d (x ∷ xs) = get_d_padded k i d xs

each_named : (sets : ℕ) (ms : List RouteMove) → sets ≤ most_sets → Each (MoveAllowed sets) ms → Each (λ m. Within 1 most_sets m.set) ms
each_named sets [] h e = tt
each_named sets (m ∷ ms) h e = (record { from = e.0.set.from; to = omega (arith, e.0.set.to) }, each_named sets ms h e.1)

pub listed_route : (x : Sheet) (n : ℕ) → SheetAllowed x → length x.moves ≡ n → RouteListed (padded most_moves zero_move x.moves) n
listed_route x n allowed e =
    let few : length x.moves ≤ most_moves = allowed.second.count.to in
    record {
      count_most = omega arith;
      each =
          rw (take_padded most_moves n zero_move x.moves e)
          (each_named (length x.sets) x.moves allowed.first.count.to allowed.second.each);
    }
