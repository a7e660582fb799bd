pub mod Steps
pub mod Heard
pub mod Moves
pub mod Ends
