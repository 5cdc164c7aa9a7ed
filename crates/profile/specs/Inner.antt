-- What only proofs and the contracts of private functions cite. No rule of the paper stands below here.
pub mod Repeated
pub mod Widths
pub mod Facts
pub mod ClosedForm
