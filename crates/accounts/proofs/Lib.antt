pub mod Payments
pub mod Truths
