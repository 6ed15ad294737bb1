pub mod Orderly
pub mod Replied
pub mod Short
pub mod Named
