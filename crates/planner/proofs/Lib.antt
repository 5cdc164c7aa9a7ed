-- Laws that the proofs of the code cite: the search, its form, the cap, signs and sizes, the checks, and lists of a property or padded.
pub mod Clash
pub mod ResultLaws
pub mod LeastLaws
pub mod SpanLaws
pub mod Ceiling
pub mod ReachLaws
pub mod Forms
pub mod CapLaws
pub mod Sign
pub mod IntegerSizes
pub mod DirectionLaws
pub mod RefusalLaws
pub mod OrderLaws
pub mod RuleRefusals
pub mod EachLaws
pub mod EndLaws
pub mod PaddedLaws
-- What the rules come to: laws of the intervals, and the theorems.
pub mod CarriedLaws
pub mod BoundLaws
pub mod ProductBound
pub mod FiguresChecks
pub mod Acceptance
pub mod Mirror
pub mod PlannedFacts
pub mod UndividedAnswers
pub mod StarredMoves
pub mod AnswerLaws
-- Third-order plans.
pub mod ThirdLaws
pub mod ThirdTheorems
-- The searches of both orders.
pub mod LeastNumbers
-- Sets of axes.
pub mod AxisLaws
pub mod AxesLaws
pub mod AxesRuns
pub mod RaisedLaws
pub mod AxesAnswers
pub mod CountedLaws
pub mod MovingLaws
pub mod LongestLaws
pub mod AxisOrder
pub mod AxesAcceptance
pub mod AxesRefused
pub mod OneAxesAnswer
pub mod CountedAlone
pub mod CommonDuration
pub mod SetOfOne
-- The start.
pub mod StartAdds
pub mod NeverFourteen
pub mod OnePlan
-- Sets of laws that the attributes of functions name.
pub mod Sets
