pub mod Bounds
pub mod Decisions
pub mod Picks
pub mod Reserves
pub mod Samples
