pub mod Halves
pub mod Overwrites
