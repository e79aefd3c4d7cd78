pub mod Deciding
pub mod Promises
pub mod Samples
pub mod Turns
