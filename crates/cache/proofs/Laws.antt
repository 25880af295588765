-- The laws of each operation, named alike: what it does to the tag, the words and the memory of the same place and of another. Proofs above cite these and open no operation.
pub mod Part
pub mod Tag
pub mod WriteBack
pub mod Evict
pub mod Fill
pub mod Sweep
pub mod Operations
pub mod Access
pub mod Loads
pub mod Instructions
pub mod Device
