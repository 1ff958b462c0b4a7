pub mod Columns
pub mod Places
pub mod Rows
pub mod Hung
pub mod Listed
pub mod Census
pub mod Frame
