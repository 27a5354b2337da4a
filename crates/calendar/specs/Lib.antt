pub mod Sums
pub mod Calendar
pub mod Hour
pub mod DaysOff
pub mod Even
