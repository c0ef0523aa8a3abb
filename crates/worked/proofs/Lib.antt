pub mod Unsafe
