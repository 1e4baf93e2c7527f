pub mod Exchanges
pub mod Connection
