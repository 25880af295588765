-- The laws of the cache's operations, and the trial claims.
pub mod Laws
pub mod Trial
pub mod Current
