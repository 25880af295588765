-- The invariant holds at the start.
use mathlib.Core.Path.{◌≡◌, refl, sym, ap, ◌∙◌}
use mathlib.Core.Bool.{true}
use mathlib.Core.List.{List}
use Prim.Native.Nat.{ℕ, ◌<◌}
use native.Mathlib.Omega.{arith}
use lib.ListN.{length, get_or, replicate, length-replicate, get_or-replicate}
use Rattle.board.specs.declared.Board.{Board}
use Rattle.board.specs.Board.{Regular, cache_pages, memory_words, cache_words, lines, line_of}
use Rattle.board.proofs.Geometry.{line_of_lt}
use Rattle.page_model.specs.Record.{keeps_rules}
use Rattle.page_model.proofs.Theorems.{start_record_lem}
use Rattle.mapping.specs.Entry.{capacity}
use Rattle.mapping.proofs.Laws.{empty_length, empty_rules, mapping_of_empty}
use Rattle.manager.proofs.RecordLaws.{length_start_records, record_at_start}
use Rattle.cache.specs.Store.{store, WellFormedStore}
use Rattle.cache.specs.Tag.{empty_tag, names}
use Rattle.cache.proofs.Laws.Tag.{names_dirty, names_not_empty, rules_all, line_empty}
use Rattle.consistency.specs.Cacheless.{start_cacheless}
use Rattle.consistency.specs.Demand3.{start_state}
use Rattle.consistency.proofs.Invariant.{frame_in, Invariant}

module _ (b : Board) (reg : Regular b) (memory words protections : List ℕ) (full : length memory ≡ memory_words b) (wide : length words ≡ cache_words b)
    (long : length protections ≡ capacity) where
  -- every tag is 0
  tag_zero : (n : ℕ) → n < lines b → get_or (replicate (lines b) 0) n 0 ≡ empty_tag
  tag_zero n h = get_or-replicate (lines b) n 0 0 h

  start_kept : WellFormedStore b (store memory words (replicate (lines b) 0))
  start_kept =
      record {
        memory_length = full;
        words_length = wide;
        tags_length = length-replicate (lines b) 0;
        tags_rules = rules_all b reg (replicate (lines b) 0) (λ k h. let e : length (replicate {A = ℕ} (lines b) 0) ≡ lines b = length-replicate (lines b) 0 in rw (tag_zero k (omega arith)) (line_empty b reg k));
      }

  -- so no line names a frame
  unnamed : (f c o : ℕ) → c < cache_pages b → o < b.page → names (get_or (replicate (lines b) 0) (line_of b c o) 0) f ≡ true → ⊥
  unnamed f c o hc ho n = names_not_empty f (tag_zero (line_of b c o) (line_of_lt b reg c o hc ho)) n

  pub start_invariant : Invariant b (start_state b memory words protections) (start_cacheless b memory)
  unfolding start_cacheless
  start_invariant =
      record {
        sound = record {
          items_length = empty_length;
          records_length = length_start_records b.frames b.colours;
          protections_length = long;
          list_rules = empty_rules b;
          record_rules = λ f hf. ap (keeps_rules b.colours) (record_at_start b.frames b.colours f hf) ∙ (start_record_lem b.colours).0;
        };
        kept = start_kept;
        agrees = λ f hf. record {
          tagged = record {
            occupied = λ c o hc ho n. absurd (unnamed f c o hc ho n);
            dirty_colour = λ c o hc ho d. absurd (unnamed f c o hc ho (ap (λ (x : ℕ). names x f) d ∙ names_dirty f));
          };
          held_words = λ c o hc ho n h. absurd (unnamed f c o hc ho n);
          current = record {
            in_line = λ c o hc ho d. absurd (unnamed f c o hc ho (ap (λ (x : ℕ). names x f) d ∙ names_dirty f));
            in_memory = λ o ho none. refl;
          };
        };
        frames_listed = λ space page. sym (ap frame_in (mapping_of_empty space page));
      }
