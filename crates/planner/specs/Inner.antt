-- What only proofs and the contracts of private functions cite. No rule of the paper stands below here, and no promise of an entry rests
-- on it.
pub mod Facts
pub mod Search
pub mod Capped
pub mod Undivided
pub mod ThirdWithin
pub mod ThirdFacts
pub mod AxisAnswers
