pub mod Offers
pub mod Promises
pub mod Refusals
pub mod Tables
