pub mod Ahead
pub mod Adds
pub mod Held
pub mod Cuts
pub mod Walk
pub mod Uses
pub mod Cases
