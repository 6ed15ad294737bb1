pub mod VClock
pub mod Calls
pub mod Laws
pub mod Text
