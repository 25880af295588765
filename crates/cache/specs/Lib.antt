-- The cache: what a tag says, the hardware's state, and what each operation does to it.
pub mod Part
pub mod Tag
pub mod Store
pub mod Cache
pub mod Trial
pub mod Current
