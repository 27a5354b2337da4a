pub mod Machines
pub mod Histories
pub mod Runs
pub mod Unopened
