pub mod Figures
pub mod FirstOpen
