pub mod Fitted
pub mod Naming
pub mod Clocks
