pub mod NextHour
pub mod Accepts
pub mod Stretches
pub mod Prices
pub mod Finished
pub mod Calls
pub mod BookSteps
