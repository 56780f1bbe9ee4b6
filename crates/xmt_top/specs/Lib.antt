pub mod Messages
pub mod Complaints
pub mod Shows
pub mod Completeness
