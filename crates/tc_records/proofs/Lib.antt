pub mod Parts
pub mod Written
pub mod Keys
pub mod SelectorParts
pub mod Same
