pub mod Image
pub mod Fits
