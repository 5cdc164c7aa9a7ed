-- The machine and its drive, the doubled numbers, and the rows along a plan.
pub mod CastLaws
pub mod MachineLaws
pub mod DoubledLaws
pub mod ForceLaws
-- Floats that are whole numbers, and what the rows are exactly.
pub mod SignedLaws
pub mod SignedSums
pub mod RoundedLaws
pub mod WholeFloats
pub mod Exactness
pub mod Theorems
pub mod Example
-- How large floats can be, and that no row leaves the finite numbers.
pub mod SizeLaws
pub mod BoundedFloats
pub mod BoundedMachine
pub mod BoundedDrive
pub mod FiniteRows
