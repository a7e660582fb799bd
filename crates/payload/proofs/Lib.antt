pub mod Table
pub mod Lengths
pub mod TextSteps
pub mod Stripped
pub mod Utf8
