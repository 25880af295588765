-- The manager: frame records and protections in lent buffers, the causes of refusal in their order, and what each call answers and leaves.

-- ---- what a reader must believe: by these the contracts say what a call does, and the demands what holds of it
pub mod Tables
pub mod Refusals
pub mod Answers
pub mod Calls
pub mod Batch
pub mod Theorems
-- ---- what the proofs stand on
pub mod Scaffold
