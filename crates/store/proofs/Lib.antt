pub mod Parts
pub mod Rise
mod Rising
mod Exact
pub mod Slots
mod Unopened
pub mod Lawful
mod Read
mod Accepted
mod Admitted
mod Entered
mod Drawn
mod Ended
mod Turned
