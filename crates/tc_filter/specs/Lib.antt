pub mod Places
pub mod FilterOptions
pub mod ActionAttributes
pub mod Kinds
pub mod Leaves
