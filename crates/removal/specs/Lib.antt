pub mod Going
pub mod Remove
pub mod Untidy
pub mod Inner
