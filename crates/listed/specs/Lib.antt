pub mod Records
pub mod Sound
pub mod Description
pub mod SetRecords
pub mod Told
