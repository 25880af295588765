-- The laws of a sheet's bytes and of its text.
pub mod Sheet
pub mod Written
pub mod Digits
pub mod Totals
pub mod Theorems
