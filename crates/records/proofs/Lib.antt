pub mod Extents
pub mod Sections
pub mod Back
pub mod Places
pub mod Shifts
