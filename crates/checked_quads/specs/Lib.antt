pub mod Inner
pub mod Law
