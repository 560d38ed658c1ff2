pub mod Parts
pub mod LabelSteps
pub mod LoadFile
pub mod Outcomes
pub mod Numbers
