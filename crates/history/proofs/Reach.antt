pub mod Neat
pub mod NeatWrites
pub mod NeatSteps
pub mod Reachable
pub mod Unchanged
