-- The theorems that specs/Theorems states.
pub use Rattle.mapping.proofs.Order.{neighbours_order, ordered_distinct}
pub use Rattle.mapping.proofs.Batches.{batch_of_items, batch_of_length}
