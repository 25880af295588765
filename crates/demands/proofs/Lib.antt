-- The proofs of the demands.
pub mod Answers
pub mod Instructions
pub mod Kept
pub mod Items
pub mod Manager
pub mod Batch
pub mod Theorem
pub mod Protected
pub mod Lines
