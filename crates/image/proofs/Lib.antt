pub mod Steps
pub mod Rise
pub mod Whole
pub mod Link
