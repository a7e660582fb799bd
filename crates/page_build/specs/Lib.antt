pub mod Fillings
pub mod Builds
