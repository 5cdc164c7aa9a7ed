-- What the code's answers show of a parse: the bytes that a rest points to.
use Rattle.std.specs.Prelude.{List, ℕ, Result, Ok, Err}
use denote.Ref.{Bor}
use Rattle.route_sheet.specs.Inner.Reading.{Parse, parsed, failed}
use Rattle.route_sheet.specs.declared.malformed.Malformed.{Malformed}

abbrev pub seen : {A : Type 0} → Result (A × Bor (List ℕ)) Malformed → Parse A
seen (Ok x) = parsed x.0 x.1.now
seen (Err e) = failed e.rest.now

-- The same of places that were read into.
abbrev pub seen_in : {A : Type 0} → List A → Result (Bor (List ℕ)) Malformed → Parse (List A)
seen_in places (Ok rest) = parsed places rest.now
seen_in places (Err e) = failed e.rest.now
