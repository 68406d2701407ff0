pub mod Probes
pub mod Examples
