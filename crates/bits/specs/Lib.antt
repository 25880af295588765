-- Masks: bits by place, and the mask, the count and the places of the bits that a test picks.
pub mod Mask
