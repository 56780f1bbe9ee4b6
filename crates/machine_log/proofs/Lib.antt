pub mod Follows
pub mod Done
pub mod Counts
pub mod Sections
pub mod Standing
pub mod Tracing
