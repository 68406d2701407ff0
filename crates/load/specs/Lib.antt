pub mod Draws
pub mod Totals
