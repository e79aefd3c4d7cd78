pub mod Closings
pub mod Filing
pub mod Framing
pub mod Rows
pub mod Samples
pub mod Truths
