-- The rules of document 01 in its order, and of document 02, requests 1, 3 and 7; then what the theorems say of them; last what only proofs
-- and the contracts of private functions cite.
pub mod Quantities
pub mod Least
pub mod Intervals
pub mod Refusals
pub mod Outcome
pub mod Order
pub mod Axes
pub mod Third
pub mod Claims
pub mod AxesClaims
pub mod ThirdClaims
pub mod Starred
pub mod StartClaims
pub mod Inner
