pub mod Uses
pub mod Written
