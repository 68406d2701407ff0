pub mod Rounding
pub mod Nearest
pub mod Patterns
pub mod NotExposed
pub mod Examples
