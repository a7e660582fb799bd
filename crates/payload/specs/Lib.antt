pub mod Errors
pub mod Payloads
pub mod Texts
