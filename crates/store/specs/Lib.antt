pub mod Held
pub mod Reading
pub mod Sound
pub mod Exact
pub mod Slots
pub mod Unopened
pub mod Ending
pub mod Counting
