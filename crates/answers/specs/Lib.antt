pub mod Said
pub mod Texts
pub mod Answers
pub mod Adds
