pub mod Emission
pub mod Defaults
pub mod Walking
