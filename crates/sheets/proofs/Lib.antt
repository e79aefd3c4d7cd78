pub mod Over
pub mod Readings
pub mod Walks
pub mod Writings
