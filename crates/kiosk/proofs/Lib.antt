pub mod Stepping
pub mod AtDesk
pub mod Listed
pub mod Laws
pub mod Handing
