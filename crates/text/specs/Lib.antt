pub mod Pages
pub mod Labels
