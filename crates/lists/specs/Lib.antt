pub mod Members
pub mod Gather
