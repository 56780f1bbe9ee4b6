pub mod FileMaps
pub mod Host
pub mod HostCalls
pub mod MemoryHost
pub mod Told
