pub mod Claims
pub mod Examples
