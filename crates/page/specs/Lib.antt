pub mod Levels
pub mod Pages
pub mod Calls
pub mod Steps
pub mod Turns
pub mod Reaching
