pub mod Runs
pub mod Past
pub mod Laws
pub mod Going
