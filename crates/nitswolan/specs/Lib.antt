-- The structs of the C interface as the paper has them, and what a caller may rely on.
pub mod Fields
pub mod Claims
pub mod AxesClaims
