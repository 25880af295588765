-- Case 4, lists of 255 and of 256 mappings, and one that a list of mappings fills. That they stand in order is shown and not computed.
use mathlib.Core.Bool.{true, ◌&&◌}
use mathlib.Core.Logic.{inr, ⊎_elim}
use mathlib.Core.Path.{◌≡◌, refl, sym, ap, subst⁻¹, ◌∙◌}
use mathlib.Core.List.{[], ◌∷◌}
use Prim.Native.Nat.{ℕ, zero, suc, ◌<◌, ◌≤◌}
use Rattle.mapping.proofs.Tests.{lt_or_le}
use native.Mathlib.Omega.{arith}
use borrow.Author.Tests.{lt-ltb, le-ltb}
use lib.ListN.{get_or}
use Rattle.board.specs.declared.Board.{Board}
use Rattle.board.specs.Board.{board01}
use Rattle.mapping.specs.declared.Mapping.{Mapping}
use Rattle.mapping.specs.Entry.{capacity, zero_mapping, mapping_at}
use Rattle.mapping.specs.Facts.{InRange, Rules}
use Rattle.mapping.proofs.Order.{before_cong₂}
use Rattle.mapping.proofs.Rules.{rules_keeps_rules}
use Rattle.manager.specs.Scaffold.Inserted.{whole_refusal}
use Rattle.manager.specs.Refusals.{first_refusal}
use Rattle.manager.proofs.CauseLaws.{refusal_rest}
use Rattle.machine.specs.Call.{map_of, perform}
use Rattle.machine.specs.State.{State, Single, map, map_all, Result}
use Rattle.machine.specs.Refusals.{buffer_right, lent_causes, own_causes, causes}
use Rattle.machine.proofs.StepLaws.{step_refused, step_accepted}
use Rattle.bits.specs.Mask as mask
use Rattle.board.specs.Board as board
use Rattle.page_model.specs.Record as frame_record
use Rattle.mapping.specs.Entry as entry
use Rattle.mapping.specs.Lookup as list_lookup
use Rattle.manager.specs.Tables as manager_tables
use Rattle.cache.specs.Tag as tag
use Rattle.machine.specs.Refusals as machine_refusals
use Rattle.machine.specs.Step as machine_step
use Rattle.run_sheet.specs.Run as run
use Rattle.edges.proofs.Items.{refusals_of, list_with, in_turn, in_turn_lem}
use Rattle.edges.proofs.Opened.{opened}
use Rattle.edges.specs.Calls.{ask, unanswered, page_mapping, item_at, mappings_by, pages_mapped, listing, leaves}
use Rattle.edges.specs.Lists.{overflowing, full_within, full_left}
use Rattle.edges.specs.Rows.{Holds, Seen, answers}
use Rattle.edges.specs.Table.{room_for_one, fresh_pair, mapped_pair}

-- ---- what stands where

get_or_items : (k : ℕ) (f : ℕ → Mapping) (i : ℕ) → i < k → get_or (mappings_by k f) i zero_mapping ≡ f i
unfolding mappings_by
get_or_items zero f i h = absurd (omega arith)
get_or_items (suc k) f zero h = refl
get_or_items (suc k) f (suc i) h = get_or_items k (λ j. f (suc j)) i (omega arith)

get_d_past : (k : ℕ) (f : ℕ → Mapping) (i : ℕ) → k ≤ i → get_or (mappings_by k f) i zero_mapping ≡ zero_mapping
unfolding mappings_by
get_d_past zero f i h = refl
get_d_past (suc k) f zero h = absurd (omega arith)
get_d_past (suc k) f (suc i) h = get_d_past k (λ j. f (suc j)) i (omega arith)

module _ (n : ℕ) (room : n ≤ capacity) where
  listed_at : (i : ℕ) → i < n → mapping_at (pages_mapped n) i ≡ page_mapping i
  listed_at i h = get_or_items capacity (item_at n) i (omega arith) ∙ rw (lt-ltb i n h)

  rest_at : (i : ℕ) → n ≤ i → mapping_at (pages_mapped n) i ≡ zero_mapping
  rest_at i h = ⊎_elim (λ l. get_or_items capacity (item_at n) i l ∙ rw (le-ltb i n h)) (λ l. get_d_past capacity (item_at n) i l) (lt_or_le i capacity)

  pages_rules : Rules board01 (pages_mapped n)
  pages_rules =
      record {
        count_le = room;
        in_range_holds = λ i h. subst⁻¹ (λ (m : Mapping). InRange board01 m) (listed_at i h) (record { space_lt = omega arith; page_lt = omega arith; frame_lt = omega arith; rights_of_holds = (omega arith, omega arith) });
        ordered = λ i j h k. before_cong₂ (sym (listed_at i (omega arith))) (sym (listed_at j k)) (inr (refl, h));
        rest_zero_holds = rest_at;
      }

-- ---- the refusal of a call, where nothing that is lent gives one

module _ (b : Board) (st : State) (call : Single) where
  lent_clear : (manager_tables.lengths_right b st.tables && machine_refusals.store_lengths b st.store && buffer_right b call) ≡ true
      → (manager_tables.rules_kept b st.tables && tag.tags_keep_rules b st.store.tags) ≡ true
      → first_refusal (lent_causes b st call) ≡ 0
  unfolding lent_causes first_refusal
  lent_clear e f = rw (e, f)

  own_first : first_refusal (lent_causes b st call) ≡ 0 → first_refusal (causes b st call) ≡ first_refusal (own_causes b st call)
  unfolding causes
  own_first e = sym (refusal_rest (lent_causes b st call) (own_causes b st call) refl e)

lent_rules : (n : ℕ) → n ≤ capacity → (manager_tables.rules_kept board01 (listing n).tables && tag.tags_keep_rules board01 (listing n).store.tags) ≡ true
unfolding manager_tables.rules_kept manager_tables.records_keep_rules manager_tables.record_at manager_tables.start_records mask.all mask.bit mask.count_of mask.first_of frame_record.colours_keep_rules frame_record.dirty_colour_of frame_record.keeps_rules run.start_with run.sheet_start board.lines board.page_lines tag.tags_keep_rules
lent_rules n room = rw (rules_keeps_rules board01 (pages_mapped n) (pages_rules n room))

lent_none : (n : ℕ) → n ≤ capacity → (call : Single) → buffer_right board01 call ≡ true → first_refusal (lent_causes board01 (listing n) call) ≡ 0
unfolding manager_tables.lengths_right machine_refusals.store_lengths run.start_with run.sheet_start board.lines board.page_lines board.memory_words board.cache_words mappings_by
lent_none n room call e = lent_clear board01 (listing n) call e (lent_rules n room)

first_of_lem : (n : ℕ) → n ≤ capacity → (call : Single) → buffer_right board01 call ≡ true → first_refusal (causes board01 (listing n) call) ≡ first_refusal (own_causes board01 (listing n) call)
first_of_lem n room call e = own_first board01 (listing n) call (lent_none n room call e)

own_255 : first_refusal (own_causes board01 (listing 255) (map 1 0 0 1)) ≡ 0
unfolding own_causes first_refusal list_lookup.lookup list_lookup.first_found entry.is_at mappings_by
own_255 = refl

own_fresh : first_refusal (own_causes board01 (listing 256) (map 1 0 0 1)) ≡ 9
unfolding own_causes first_refusal list_lookup.lookup list_lookup.first_found entry.is_at mappings_by
own_fresh = refl

own_mapped : first_refusal (own_causes board01 (listing 256) (map 0 255 0 1)) ≡ 7
unfolding own_causes first_refusal list_lookup.lookup list_lookup.first_found entry.is_at mappings_by
own_mapped = refl

-- ---- the rows

-- what is seen of one call
one : Result → Seen
one got = answers (got.answer ∷ [])

pub room_for_one_lem : Holds room_for_one
unfolding ask one machine_step.accept
room_for_one_lem = sym (ap one (step_accepted board01 (listing 255) (map 1 0 0 1) (first_of_lem 255 (omega arith) (map 1 0 0 1) refl ∙ own_255)))

pub fresh_pair_lem : Holds fresh_pair
unfolding ask one
fresh_pair_lem =
    let e = first_of_lem 256 (omega arith) (map 1 0 0 1) refl ∙ own_fresh in
    sym (ap one (step_refused board01 (listing 256) (map 1 0 0 1) 9 (e, λ z. omega arith)))

pub mapped_pair_lem : Holds mapped_pair
unfolding ask one
mapped_pair_lem =
    let e = first_of_lem 256 (omega arith) (map 0 255 0 1) refl ∙ own_mapped in
    sym (ap one (step_refused board01 (listing 256) (map 0 255 0 1) 7 (e, λ z. omega arith)))

-- and of a list of mappings, its items in turn
overflowed : perform board01 (listing 254) (map_all overflowing (unanswered 5)) ≡ in_turn board01 (listing 254) overflowing
unfolding whole_refusal first_refusal
overflowed = in_turn_lem board01 (listing 254) overflowing (unanswered 5) (lent_none 254 (omega arith) (map_of zero_mapping) refl) refl

pub full_within_lem : Holds full_within
unfolding opened refusals_of one
full_within_lem = ap one overflowed

pub full_left_lem : Holds full_left
unfolding opened list_with
full_left_lem = ap (λ (r : Result). leaves r.after) overflowed
