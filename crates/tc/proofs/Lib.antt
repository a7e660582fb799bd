pub mod Told
pub mod Families
pub mod Named
