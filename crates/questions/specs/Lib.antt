pub mod Answers
pub mod Eaten
pub mod Light
pub mod Written
pub mod Reasons
pub mod WhyNot
