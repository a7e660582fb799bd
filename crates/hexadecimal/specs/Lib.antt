pub mod Hex
pub mod Answers
pub mod PlainText
pub mod Laws
