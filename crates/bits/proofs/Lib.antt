-- The laws of masks, of tests over places, and of tests proved by computing them.
pub mod Mask
pub mod Places
pub mod Tautology
