-- The page that a reader is sent to
-- Its notions and steps
pub mod Requests
pub mod Granted
pub mod Merges
pub mod Histories
pub mod Shown
pub mod Anywhere
pub mod Network
pub mod Calls
pub mod InC
pub mod Fitting
