pub mod Auction
pub mod Best
pub mod Certificates
pub mod Charges
pub mod Optimum
pub mod Truth
