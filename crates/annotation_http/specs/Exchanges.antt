pub mod Connections
pub mod Plans
pub mod Exchanges
pub mod OpenDesks
