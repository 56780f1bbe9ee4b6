pub mod Weights
pub mod Sums
pub mod StatementWeights
pub mod Registers
pub mod StatementRegisters
pub mod Names
pub mod StatementNames
pub mod ProgramNames
