-- Laws on the steps.
pub mod Steps
