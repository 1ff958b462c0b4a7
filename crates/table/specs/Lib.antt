pub mod Table
pub mod Build
pub mod Steps
pub mod Unheld
pub mod Columns
