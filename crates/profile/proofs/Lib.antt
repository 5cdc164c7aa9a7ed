-- Natural numbers: differences, running sums, ramps, and ramps with delayed copies.
pub mod Differences
pub mod Totals
pub mod RampLaws
pub mod Delays
pub mod DelayBounds
-- The switched value in its segments, and the sums from rest.
pub mod SumLaws
pub mod ValueLaws
pub mod Lookup
pub mod SwitchedLaws
-- Its sums as ramps, over any list of widths.
pub mod FirstSum
pub mod LaterSums
pub mod SpreadLaws
pub mod ProductLaws
pub mod WidthLaws
pub mod HalfCountLaw
-- The closed form of its sums, likewise.
pub mod Binomials
pub mod ClosedForm
pub mod SignedForm
-- The profile of the paper.
pub mod AnyOrder
pub mod SumSizes
pub mod Orders
