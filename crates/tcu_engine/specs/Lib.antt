pub mod Asks
pub mod Looks
pub mod Replies
pub mod Sizes
