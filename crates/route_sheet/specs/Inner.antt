-- What only proofs and the contracts of private functions cite. No promise of an entry rests on it.
pub mod Reading
pub mod Parts
pub mod Sections
pub mod Output
pub mod Lines
pub mod Route
