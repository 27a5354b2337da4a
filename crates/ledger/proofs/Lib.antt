pub mod Asked
pub mod Lists
pub mod Store
mod Sums
mod Best
mod Own
mod Refusals
pub mod Unopened
pub mod Promise
pub mod Keeps
