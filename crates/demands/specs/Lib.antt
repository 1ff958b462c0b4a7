pub mod Life
pub mod Calls
pub mod Orders
pub mod Clerks
pub mod Examined
pub mod Counter
pub mod Desk
