pub mod Things
pub mod Calls
pub mod Table
pub mod First
pub mod Questions
pub mod Marking
pub mod Sharing
pub mod Words
