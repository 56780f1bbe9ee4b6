pub mod OwnSlots
mod RowTraces
mod RowLive
