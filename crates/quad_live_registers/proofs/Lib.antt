pub mod Dead
pub mod DeadExpressions
pub mod Written
pub mod DeadStatements
pub mod Kept
pub mod Whole
