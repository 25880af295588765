-- The page model: its tables, for data and for instructions, the busy mark, what the code's enums stand for, the masks by classes, a frame's record, a step of a
-- record, and what is proved of these.
pub mod Table
pub mod Instructions
pub mod Busy
pub mod Cases
pub mod Masks
pub mod Record
pub mod Step
pub mod Theorems
