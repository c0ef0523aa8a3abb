pub mod Shuttle
pub mod Laws
