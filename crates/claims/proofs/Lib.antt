pub mod Band
pub mod BothAtTargets
pub mod Agreement
pub mod ResetsAgree
pub mod LineThree
pub mod Examples
