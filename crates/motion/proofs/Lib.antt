-- Signed numbers, and the count and the remainder of a position.
pub mod IntegerLaws
pub mod CountLaws
pub mod RoundingLaws
pub mod RoundedValues
pub mod StartLaws
-- The snap at a sample, the sums from rest, and that none leaves its range.
pub mod OrderedLaws
pub mod RestLaws
pub mod InnerSampleLaws
pub mod OriginLaws
pub mod StepLaws
pub mod DirectedSizes
pub mod StateLaws
-- One sample by the closed form.
pub mod FallingFactorials
pub mod ClosedStates
-- What the functions that give one sample share.
pub mod OneSample
-- A table: runs of stores, the segments, and the rows that they leave.
pub mod StretchRows
pub mod StretchLaws
pub mod PairedLaws
pub mod TableLaws
-- The switched value by the widths; the third order's sums, and its runs; the positions of both orders.
pub mod DirectedValue
pub mod ThirdStates
-- Reference rows: pairs of values, and their runs.
pub mod PairLaws
pub mod ReferenceLaws
-- The rows of a force table, and what they are exactly.
pub mod ForceRows
-- From a plan to what the entries promise.
pub mod EntryLaws
pub mod SamplingLaws
pub mod AxisSampling
pub mod AxesSampling
pub mod AxesSampleRuns
pub mod FillLaws
pub mod OrderLaws
pub mod AlongLaws
pub mod AnswerLaws
pub mod RefusalTheorems
-- Demand 3, line by line, and whole.
pub mod KeptRules
pub mod SumsFromRest
pub mod BoundRules
pub mod HalfCountRule
pub mod EndRule
pub mod KeptLaws
pub mod Demand3
pub mod GrowthLaws
pub mod ReferenceTheorems
pub mod RestAxis
pub mod Demand3Axes
pub mod AxesTheorems
pub mod SampleOfOne
pub mod GivenSamples
pub mod EndRemainder
pub mod RoundedFromStart
pub mod StartGained
pub mod HandOver
pub mod FromZero
pub mod OneForceTable
pub mod ExactProfile
pub mod EitherDirection
pub mod PlayedTable
pub mod RuleAnswers
pub mod AxesRuleAnswers
