mod Operations
pub mod Broadcast
pub mod New
pub mod Numbers
pub mod Sound
