pub mod Fault
pub mod Scope
pub mod Table
pub mod Opened
pub mod Size
pub mod Waiting
pub mod Constant
pub mod Locals
