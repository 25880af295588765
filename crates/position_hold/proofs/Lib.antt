-- Position hold's proofs: the laws of a look, and the theorems.
pub mod Told
pub mod FirstReads
pub mod Reading
pub mod Holds
pub mod Refusals
pub mod Drawing
pub mod Demand3
pub mod Rows
pub mod LookRows
pub mod Theorems
