pub mod Firsts
pub mod Readings
pub mod Finds
pub mod Pairs
pub mod Halving
pub mod Networks
pub mod Parts
