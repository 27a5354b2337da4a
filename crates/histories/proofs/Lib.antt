pub mod Runs
pub mod Keeps
pub mod Unopened
