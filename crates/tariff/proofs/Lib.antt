-- The tariff's laws.
pub mod Laws
