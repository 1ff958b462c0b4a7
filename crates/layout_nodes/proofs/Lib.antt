pub mod HoldingSteps
pub mod FreeSteps
pub mod Listed
pub mod Areas
pub mod Naming
pub mod Lookup
pub mod OnePass
