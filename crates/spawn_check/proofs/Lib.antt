pub mod Rows
pub mod Lifting
pub mod MarkedFunctions
pub mod Order
pub mod AllThings
pub mod FirstMet
pub mod Walks
mod Worked
