pub mod Records
pub mod Step
pub mod Cuts
pub mod Sizes
pub mod Desk
