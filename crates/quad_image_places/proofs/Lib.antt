pub mod Own
pub mod Quiet
pub mod Tails
pub mod Laid
pub mod InImage
