pub mod LineSteps
pub mod Counts
pub mod VectorSteps
pub mod InstanceSteps
pub mod RangeLaws
