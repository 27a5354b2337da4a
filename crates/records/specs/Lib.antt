pub mod Bytes
pub mod Frames
pub mod Prices
pub mod Records
pub mod Readings
pub mod Says
pub mod Bare
pub mod Unwritten
