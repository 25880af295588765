-- The laws of the run of a sheet.
pub mod Running
