pub mod RowByRow
pub mod Parts
