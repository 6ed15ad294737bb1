pub mod Reply
pub mod Named
pub mod Lent
pub mod Given
