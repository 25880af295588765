-- The machine: its state, its calls, the causes of refusal in their order, and what each call answers and leaves.

-- ---- what a reader must believe: by these the contracts say what a call does, and the demands what holds of it
pub mod State
pub mod Refusals
pub mod Parts
pub mod Step
pub mod Call
pub mod Theorems
-- ---- what the proofs stand on
pub mod Scaffold
