pub mod Requests
pub mod Ranges
pub mod Answers
pub mod Desk
pub mod Listener
pub mod Inner
