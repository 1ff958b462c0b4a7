pub mod Tests
pub mod Numbers
pub mod Same
pub mod Sizes
pub mod Padded
pub mod Offered
pub mod Offering
pub mod Blocks
