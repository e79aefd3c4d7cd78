pub mod Books
pub mod Places
pub mod Posting
pub mod Promises
