pub mod Search
pub mod Calls
