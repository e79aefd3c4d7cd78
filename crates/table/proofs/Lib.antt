pub mod Backs
pub mod Layers
pub mod Sheets
pub mod Sweeps
pub mod TableRows
