-- What the proofs stand on, between a call and the functions below it: how a call is planned, and what it has tested. No contract of a call names it.
pub mod Plans
pub mod Loads
pub mod Ready
