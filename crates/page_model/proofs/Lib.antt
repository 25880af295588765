-- The page model's laws and theorems.
pub mod Rules
pub mod Cells
pub mod Instructions
pub mod Idle
pub mod Start
pub mod Encoding
pub mod Records
pub mod After
pub mod Operations
pub mod Moving
pub mod Colours
pub mod Passing
pub mod Theorems
pub mod Listed
pub mod Numbers
