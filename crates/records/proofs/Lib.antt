pub mod Heads
pub mod First
pub mod Fours
pub mod Written
pub mod Books
pub mod Rows
pub mod Begun
