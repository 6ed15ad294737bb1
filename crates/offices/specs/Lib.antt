-- The notions of the theorems on offices
pub mod Network
pub mod Gaps
