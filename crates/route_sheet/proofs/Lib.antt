-- The decimal of a number.
pub mod DecimalLaws
pub mod DecimalBridge
-- Texts, and formats: what is written and read as one.
pub mod TextLaws
pub mod FormatLaws
pub mod SequenceLaws
pub mod MappedFormats
-- The format of a number.
pub mod ByteLaws
pub mod NumberLaws
-- The formats of X and of a line.
pub mod DisplacementLaws
pub mod LineLaws
-- The format of a sheet.
pub mod JoinedLaws
pub mod SectionLaws
pub mod SheetLaws
pub mod LengthLaws
-- What a text comes to, and the theorems on reading.
pub mod StopLaws
pub mod ComesToLaws
pub mod ReadingTheorems
-- A number outside its span is charged to its own line.
pub mod OwnLine
pub mod FailureLaws
pub mod OutsideSpan
-- One answer.
pub mod AnswerLaws
-- The reader's code: a loop over lines, a whole sheet.
pub mod SectionRuns
pub mod SheetRuns
-- The report's code: bytes put one after the other, and the line of a move.
pub mod OutputLaws
pub mod LineTextLaws
pub mod ReportBounds
pub mod PlanLineLaws
pub mod RouteRuns
pub mod ContentsLaws
pub mod ReportLaws
