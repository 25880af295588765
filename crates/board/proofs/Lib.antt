-- The laws of the geometry.
pub mod Geometry
