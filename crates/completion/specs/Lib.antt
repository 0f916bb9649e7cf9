pub mod Standings
pub mod Checks
pub mod Answers
