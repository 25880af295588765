-- All that a call of the machine computes with, by its parts, for rows that are computed: `unfolding opened` opens it, and with each name what that
-- name's own line opens.
use Rattle.bits.specs.Mask as mask
use Rattle.board.specs.Board as board
use Rattle.page_model.specs.Record as frame_record
use Rattle.page_model.specs.Step as record_step
use Rattle.mapping.specs.Change as list_change
use Rattle.mapping.specs.Entry as entry
use Rattle.mapping.specs.Lookup as list_lookup
use Rattle.mapping.specs.Rules as list_rules
use Rattle.manager.specs.Refusals as refusals
use Rattle.manager.specs.Tables as manager_tables
use Rattle.cache.specs.Cache as hardware
use Rattle.cache.specs.Tag as tag
use Rattle.machine.specs.Call as machine_call
use Rattle.machine.specs.Refusals as machine_refusals
use Rattle.machine.specs.Step as machine_step

masks_opened : Unit {0}
unfolding mask.bit mask.mask_of mask.count_of mask.all mask.any mask.first_of mask.places_of
masks_opened = tt

records_opened : Unit {0}
unfolding board.lines board.cache_words board.memory_words board.colour_of frame_record.state_of frame_record.instruction_state_of frame_record.keeps_rules frame_record.encode record_step.cell_of record_step.instruction_cell_of record_step.record_after record_step.operations
records_opened = tt

list_opened : Unit {0}
unfolding entry.in_range entry.is_zero entry.is_at entry.is_before list_rules.all_in_range list_rules.rises_at list_rules.rising list_rules.rest_zero list_rules.keeps_rules list_lookup.first_found list_lookup.lookup list_lookup.mapping_of list_lookup.place_for list_change.empty list_change.insert_at list_change.remove
list_opened = tt

tables_opened : Unit {0}
unfolding refusals.first_refusal manager_tables.record_at manager_tables.put_record manager_tables.start_records manager_tables.records_keep_rules manager_tables.lengths_right manager_tables.rules_kept manager_tables.protection manager_tables.mapping_state manager_tables.instructions_of manager_tables.protection_at manager_tables.tabulate manager_tables.refill
tables_opened = tt

hardware_opened : Unit {0}
unfolding hardware.evict hardware.flush_by hardware.purge hardware.read_word hardware.write_word hardware.device_read hardware.device_write hardware.bring_word tag.tags_keep_rules
hardware_opened = tt

calls_opened : Unit {0}
unfolding machine_refusals.causes machine_step.carry_out_by machine_step.step machine_call.perform
calls_opened = tt

unfoldable pub opened : Unit {0}
unfolding masks_opened records_opened list_opened tables_opened hardware_opened calls_opened
opened = tt
