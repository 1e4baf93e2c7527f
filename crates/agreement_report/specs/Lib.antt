pub mod Decimals
pub mod Report
pub use Rattle.kappa_alpha.specs.Figures
