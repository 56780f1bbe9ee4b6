pub mod Written
pub mod Rows
pub mod Laws
pub mod Commute
pub mod Within
pub mod Runs
pub mod Bridge
pub mod Alone
pub mod Unseen
mod Worked
