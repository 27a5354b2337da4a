mod ByZone
pub mod Tables
mod Rightly
mod Openings
pub mod Unopened
pub mod Cover
pub mod Decided
mod Trace
mod Inside
mod Coverings
mod Turned
mod Settled
mod Oldest
pub mod Lines
pub mod Keeps
pub mod Sums
pub mod Billed
pub mod Metered
pub mod Laws
