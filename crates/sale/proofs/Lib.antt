pub mod Closes
pub mod Openings
