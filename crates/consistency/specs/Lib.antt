-- The cacheless memory, and demand 3, on this board and on one whose flush also empties.
pub mod Cacheless
pub mod Demand3
pub mod Flushes
pub mod Rows
