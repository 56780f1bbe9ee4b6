pub mod Log
pub mod Done
pub mod Traces
