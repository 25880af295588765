-- The page model's theorems: `specs/Theorems` states them.
pub use Rattle.page_model.proofs.Start.{start_record_lem}
pub use Rattle.page_model.proofs.Encoding.{encode_decode, decode_encode, kept_mark, freed_record, dirty_colour, dirty_colour_aside}
pub use Rattle.page_model.proofs.After.{step_keeps_rules, state_after_lem, instruction_state_after}
pub use Rattle.page_model.proofs.Operations.{few_operations, ops_complete, operations_below}
pub use Rattle.page_model.proofs.Passing.{read_passes, write_passes, fetch_passes, idle_not_barred}
