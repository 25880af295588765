-- What each operation does to a frame's current words: eviction, flush and access lose none; a purge, a write and a transfer none of another frame.
pub mod Line
pub mod Purge
pub mod Write
pub mod Device
pub mod Word
