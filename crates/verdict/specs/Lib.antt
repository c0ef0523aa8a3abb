pub mod Verdict
pub mod Told
pub mod Judged
