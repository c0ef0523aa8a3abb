pub mod Cases
pub mod Worked
pub mod Refused
pub mod Printed
pub mod Unsafe
