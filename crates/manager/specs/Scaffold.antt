-- What the proofs stand on: the causes of refusal as the code tests them, and how it lists the items of a list at once. No contract of a call names it.
pub mod Told
pub mod Inserted
