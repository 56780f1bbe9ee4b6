pub mod Allocation
pub mod Live
pub mod Meaning
pub mod Program
pub mod Regions
pub mod Traces
pub mod WellFormed
