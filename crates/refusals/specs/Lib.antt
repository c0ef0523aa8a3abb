pub mod Words
pub mod Written
pub mod Lines
pub mod Told
pub mod Steps
