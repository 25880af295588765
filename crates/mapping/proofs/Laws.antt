-- The laws of the mapping list, for callers: what the rules and a lookup say, what each operation does at a place, to the rules and to lookups, and a batch's items.
pub use Rattle.mapping.proofs.Records.{items_length}
pub use Rattle.mapping.proofs.Entry.{rights_known, known_rights, in_range_true, range_in_range, is_zero_true, is_zero_zero, is_at_true, maps_is_at, is_at_false, not_is_at}
pub use Rattle.mapping.proofs.Rules.{keeps_rules_true, rules_keeps_rules, count_length}
pub use Rattle.mapping.proofs.Place.{found_place}
pub use Rattle.mapping.proofs.Looks.{look_kept, look_broken, find_mapped, find_listed}
pub use Rattle.mapping.proofs.Lookups.{lookup_at, at_lookup, lookup_none, none_lookup, lookup_cases, listed_found}
pub use Rattle.mapping.proofs.Lookups.{mapping_of_at, mapping_of_nothing, found_listed, none_found, mapping_of_listed, mapping_of_unlisted}
pub use Rattle.mapping.proofs.Change.{empty_count, empty_length, empty_at_lem}
pub use Rattle.mapping.proofs.Change.{remove_unlisted, remove_over, remove_listed, remove_count, remove_length, remove_at_earlier, remove_at_later}
pub use Rattle.mapping.proofs.Start.{empty_rules, mapping_of_empty}
pub use Rattle.mapping.proofs.Inserted.{inserted_count, inserted_length, inserted_rules, mapping_of_inserted_same, mapping_of_inserted_other}
pub use Rattle.mapping.proofs.Removed.{remove_rules, lookup_remove_same, mapping_of_remove_same, mapping_of_remove_other}
pub use Rattle.mapping.proofs.Batches.{items_of_length, items_of_at, batch_of_items, batch_of_length}
