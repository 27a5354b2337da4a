pub mod State
pub mod Outcome
pub mod Accounts
pub mod Books
pub mod Steps
pub mod Stretch
pub mod Means
