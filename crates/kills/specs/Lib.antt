pub mod Lines
pub mod Posts
pub mod Laws
