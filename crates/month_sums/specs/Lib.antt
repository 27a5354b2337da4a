pub mod Lines
pub mod Named
pub mod Told
