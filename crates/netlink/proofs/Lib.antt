pub mod Fronts
pub mod Overwrites
pub mod Forms
