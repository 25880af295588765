-- Request N10: a call with one of its orders left out and what a reader then finds; that each order of every accepted step is needed; rows of orders left
-- out, and of the cells of document 01's board.
pub mod Action
pub mod Without
pub mod Necessity
pub mod Rows
pub mod CellRows
