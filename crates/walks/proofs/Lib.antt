mod Chain
mod Written
mod WalkSteps
mod UsageSteps
pub mod Meaning
mod Following
pub mod Entries
mod OfNodes
mod OfColumns
mod NodeBytes
mod Everywhere
pub mod Along
