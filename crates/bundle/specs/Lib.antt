pub mod Bids
pub mod Bundles
pub mod Checks
pub mod Reserves
pub mod Stocks
pub mod Supplies
pub mod Units
