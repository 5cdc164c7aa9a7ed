-- A parse that fails after the text p, whatever part p ends in.
use mathlib.Core.List.{List, [], ◌∷◌, ◌++◌, append_assoc}
use Prim.Native.Nat.{ℕ, zero, suc, ◌<◌}
use native.Mathlib.Omega.{arith}
use lib.ListN.{length}
use Rattle.planner.specs.Refusals.{Each}
use Rattle.route_sheet.specs.Sheet.{joined}
use Rattle.route_sheet.specs.Inner.Reading.{Parse, then_read, read_lines}
use Rattle.route_sheet.proofs.FormatLaws.{Stops, Format}

pub record FailsAfter {A : Type 0} (read : List ℕ → Parse A) (p s : List ℕ) : Type 0 where
  pub stops : Stops (read (p ++ s))

-- In the first of two parts.
pub in_first :
    {A B : Type 0} {read : List ℕ → Parse A} {p s : List ℕ} (next : A → List ℕ → Parse B) →
    FailsAfter read p s → FailsAfter (λ t. then_read (read t) next) p s
unfolding then_read
in_first next h = record { stops = record { rest = h.stops.rest; is = rw h.stops.is } }

module _ {A : Type 0} {text : A → List ℕ} {ok : A → Type 0} {read : List ℕ → Parse A} (f : Format text ok read) where
  -- In the second part.
  pub in_second :
      {B : Type 0} {p s : List ℕ} (next : A → List ℕ → Parse B) (a : A) → ok a →
      FailsAfter (next a) p s → FailsAfter (λ t. then_read (read t) next) (text a ++ p) s
  unfolding then_read
  in_second {p = p} {s} next a h k =
      record { stops = record { rest = k.stops.rest; is = rw (append_assoc (text a) p s, f.reads_back a h (p ++ s), k.stops.is) } }

  -- After the lines xs, in one of those that follow.
  pub in_lines :
      {p s : List ℕ} → (n : ℕ) (xs : List A) → Each ok xs → length xs < n →
      FailsAfter read p s → FailsAfter (read_lines read n) (joined text xs ++ p) s
  unfolding read_lines joined
  in_lines zero xs h l k = absurd (omega arith)
  in_lines (suc n) [] h l k = in_first _ k
  in_lines {p} {s} (suc n) (x ∷ xs) h l k =
      rw (append_assoc (text x) (joined text xs) p)
      (in_second _ x h.0 (in_first _ (in_lines n xs h.1 (omega arith) k)))
