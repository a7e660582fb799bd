pub mod Reading
pub mod Names
pub mod Layouts
pub mod Selectors
pub mod Again
