pub mod Payloads
pub mod ByType
pub mod KindTexts
pub mod KindLengths
pub mod ActionsFound
