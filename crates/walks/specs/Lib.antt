pub mod Chain
pub mod Walk
pub mod Order
pub mod Usage
pub mod Snapshot
pub mod Columns
pub mod Along
pub mod Inner
