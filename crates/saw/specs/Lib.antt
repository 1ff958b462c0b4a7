pub mod Saw
pub mod Cuts
pub mod Read
pub mod Sawyer
pub mod Listed
pub mod Written
