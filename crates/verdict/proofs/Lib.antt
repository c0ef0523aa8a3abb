pub mod Fabrics
pub mod Taken
pub mod Verdicts
