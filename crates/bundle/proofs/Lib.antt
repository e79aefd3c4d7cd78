pub mod Bundles
pub mod Checks
pub mod FromFn
pub mod Padding
pub mod Steps
pub mod Supplies
pub mod Worths
