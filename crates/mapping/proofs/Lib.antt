-- The laws of the mapping list and of batches: Laws has those for callers, the others what leads to them and what the functions' proofs cite.
pub mod Tests
pub mod Records
pub mod Entry
pub mod Order
pub mod Rules
pub mod First
pub mod Lookups
pub mod Place
mod InOrder
mod Moves
pub mod Including
pub mod Without
pub mod Change
pub mod Start
pub mod Inserted
pub mod Removed
pub mod Looks
pub mod Batches
pub mod Theorems
pub mod Laws
