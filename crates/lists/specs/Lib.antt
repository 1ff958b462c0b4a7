pub mod Lists
pub mod Search
pub mod Flags
pub mod Inner
