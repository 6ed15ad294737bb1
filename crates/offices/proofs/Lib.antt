pub mod Network
pub mod Anywhere
pub mod Again
pub mod Gaps
pub mod Settled
pub mod Limits
pub mod OneDot
pub mod ByClock
