pub mod RowsOut
