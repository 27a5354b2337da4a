pub mod Means
pub mod Bounds
pub mod Slots
pub mod Coefficients
pub mod Unopened
pub mod Billed
pub mod Metered
