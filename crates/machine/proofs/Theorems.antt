-- The machine's theorem: `specs/Theorems` states it.
pub use Rattle.machine.proofs.Parts.{whole_part}
