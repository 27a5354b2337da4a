pub mod Adds
pub mod Said
