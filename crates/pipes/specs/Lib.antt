pub mod Came
pub mod Remedy
