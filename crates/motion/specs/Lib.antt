-- The rules of document 01 in its order, with what the entries promise; then what the promises come to, and demand 3; last what only
-- proofs and the contracts of private functions cite.
pub mod Sampling
pub mod ForceRows
pub mod Tables
pub mod Answer
pub mod Axes
pub mod Claims
pub mod Demand3
pub mod ReferenceClaims
pub mod AxesClaims
pub mod StartClaims
pub mod EndClaims
pub mod Inner
