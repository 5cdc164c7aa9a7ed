-- The answers in their structs, and that each promise leaves one.
pub mod StructLaws
pub mod PlanLaws
pub mod OneAnswer
-- What a caller may rely on.
pub mod CallerTheorems
pub mod RuleAnswers
pub mod RefusalTheorems
pub mod CallerAxes
