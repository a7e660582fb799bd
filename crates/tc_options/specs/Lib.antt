pub mod Carried
pub mod Parms
pub mod Mirrors
pub mod Nats
pub mod TunnelKeys
pub mod Options
