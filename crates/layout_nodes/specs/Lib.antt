pub mod Listings
pub mod Spots
pub mod Standing
pub mod Inner
