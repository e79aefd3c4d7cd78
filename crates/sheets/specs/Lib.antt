pub mod Allowed
pub mod Numbers
pub mod Reading
pub mod Sheets
pub mod Writing
