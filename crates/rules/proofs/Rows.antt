-- Rows: their order, their sums, the schedule that they state, the work area.
pub mod Rising
pub mod RowOrder
pub mod RowSums
pub mod ListOrder
pub mod ScheduleRows
pub mod FlowRows
pub mod RowsSoFar
pub mod WorkArea
