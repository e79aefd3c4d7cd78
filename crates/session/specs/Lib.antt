pub mod Files
pub mod Frames
pub mod Session
pub mod Closing
pub mod Promises
pub mod Samples
