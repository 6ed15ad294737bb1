pub mod Kept
pub mod Brought
pub mod KeptWaits
pub mod Waits
