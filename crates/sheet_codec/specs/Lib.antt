-- The run sheet's bytes, the text that is printed, and what a function leaves that writes text.
pub mod Format
pub mod Totals
pub mod Text
pub mod Put
pub mod Wrote
pub mod Theorems
