pub mod Closing
pub mod Promises
