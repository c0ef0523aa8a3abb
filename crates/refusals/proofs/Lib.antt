pub mod Table
pub mod Writing
pub mod Steps
