-- Document 01, "Force rows", in its order; then what holds of the rows beyond the promise of the table's entry.
pub mod Machine
pub mod Doubled
pub mod Force
pub mod Claims
