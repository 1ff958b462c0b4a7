pub mod Sides
pub mod Row
pub mod Kinds
pub mod Numbers
pub mod Offers
pub mod Offered
pub mod Insertion
