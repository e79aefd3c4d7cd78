pub mod Closing
pub mod Lives
pub mod Numbers
pub mod Opening
pub mod Promises
pub mod States
