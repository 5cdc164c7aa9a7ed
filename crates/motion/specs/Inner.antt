-- What only proofs and the contracts of private functions cite. No rule of the paper stands below here, and no promise of an entry rests
-- on it.
pub mod SwitchedLevels
pub mod InnerSamples
pub mod ClosedForm
pub mod Steps
pub mod Planned
pub mod PlannedAxes
pub mod SegmentLists
pub mod Rows
pub mod Stretches
pub mod PairedSums
pub mod Orders
