pub mod ByteCells
