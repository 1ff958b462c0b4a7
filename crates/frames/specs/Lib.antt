pub mod Bytes
pub mod Fields
pub mod Requests
pub mod Framing
pub mod Answers
pub mod Writing
pub mod Ranges
pub mod Inner
