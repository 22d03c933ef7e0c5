pub mod HalfCells
