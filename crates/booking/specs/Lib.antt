pub mod NewNodes
pub mod Book
pub mod Marks
pub mod Inner
