-- Document 01, "The profile"; last what only proofs cite: the same profile over any list of interval widths.
pub mod Profile
pub mod Inner
