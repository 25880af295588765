-- The manager's theorems: `specs/Theorems` states them.
pub use Rattle.manager.proofs.RecordLaws.{start_records_lem}
pub use Rattle.manager.proofs.FirstRefusal.{first_refusal_lem}
pub use Rattle.manager.proofs.Passing.{protection_numbers, read_protection, write_protection, fetch_protection}
