pub mod Instructions
pub mod Image
