pub mod Carried
pub mod Outs
