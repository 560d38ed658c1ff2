-- The steps of the third pass: EQU names and lines.
pub mod ReplaceSteps
pub mod LineSteps
