-- The theorem of the edges.
pub mod Opened
pub mod Items
pub mod Full
pub mod Again
pub mod Lists
pub mod Order
pub mod Theorem
