-- The run of a sheet: what the machine makes of it, and what the code holds on the way.
pub mod Run
pub mod Ran
