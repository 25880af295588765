-- The board and its geometry.
pub mod Board
