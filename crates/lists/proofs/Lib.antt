pub mod Moves
pub mod Scan
pub mod Look
pub mod Stamps
pub mod Residues
pub mod Chains
pub mod Visits
pub mod Named
pub mod Padded
pub mod Found
pub mod Fill
mod Vectors
