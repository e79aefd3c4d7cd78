pub mod Allows
pub mod Entries
pub mod Orders
pub mod Steps
pub mod Tells
