-- Laws of the refusals in memory, cache words and tags, and of what the orders leave of them.
use mathlib.Core.Path.{◌≡◌, ap₂, subst⁻¹}
use mathlib.Core.Bool.{true, false, ◌&&◌, and-false}
use Prim.Native.Nat.{ℕ, ◌<◌}
use borrow.Author.Tests.{eq-eqb, eqb-true}
use lib.Dec.{eqb}
use lib.ListN.{length}
use Rattle.bits.proofs.Tautology.{and_left, and_right}
use Rattle.board.specs.declared.Board.{Board}
use Rattle.board.specs.Board.{Regular, cache_pages, instruction_page, memory_words, cache_words, lines}
use Rattle.board.proofs.Geometry.{data_page, instruction_page_lem}
use Rattle.page_model.specs.declared.Op.{Op}
use Rattle.page_model.specs.declared.Op.TheVariants.{None, Flush, Purge, PurgeInstructions}
use Rattle.page_model.specs.declared.Ops.{Ops}
use Rattle.page_model.specs.Step.{OpBelow}
use Rattle.manager.specs.Answers.{operation_on, accepted}
use Rattle.cache.specs.Store.{Store, WellFormedStore}
use Rattle.cache.specs.Cache.{FlushKind, leaving}
use Rattle.cache.specs.Tag.{tags_keep_rules}
use Rattle.cache.proofs.Laws.Operations.{flush_kept, purge_kept}
use Rattle.machine.specs.Scaffold.Ready.{AccessReady}
use Rattle.machine.specs.Refusals.{store_lengths}
use Rattle.machine.specs.Step.{operate_by, carry_out_by, carry_out}

module _ (b : Board) (s : Store) where
  pub lengths_memory : eqb (length s.memory) (memory_words b) ≡ false → store_lengths b s ≡ false
  unfolding store_lengths
  lengths_memory e = rw e

  pub lengths_words : eqb (length s.words) (cache_words b) ≡ false → store_lengths b s ≡ false
  unfolding store_lengths
  lengths_words e = rw (e, and-false)

  pub lengths_tags : eqb (length s.tags) (lines b) ≡ false → store_lengths b s ≡ false
  unfolding store_lengths
  lengths_tags e = rw (e, and-false)

  pub lengths_right_lem : length s.memory ≡ memory_words b → length s.words ≡ cache_words b → length s.tags ≡ lines b → store_lengths b s ≡ true
  unfolding store_lengths
  lengths_right_lem m w t = ap₂ ◌&&◌ (ap₂ ◌&&◌ (eq-eqb _ _ m) (eq-eqb _ _ w)) (eq-eqb _ _ t)

  -- a store of its lengths whose tags keep the rules
  pub well_formed : store_lengths b s ≡ true → tags_keep_rules b s.tags ≡ true → WellFormedStore b s
  unfolding store_lengths
  well_formed l r =
      record {
        memory_length = eqb-true (length s.memory) (memory_words b) (search (and_left, and_right));
        words_length = eqb-true (length s.words) (cache_words b) (search (and_left, and_right));
        tags_length = eqb-true (length s.tags) (lines b) (search (and_left, and_right));
        tags_rules = r;
      }

-- ---- a frame's operations, and the access after them

module _ (b : Board) (reg : Regular b) (how : FlushKind) (f : ℕ) (hf : f < b.frames) where
  -- an operation on a frame, by either flush, leaves a store of its lengths, whose tags keep the rules
  pub operate_kept : (op : Op) → OpBelow b.colours op → (s : Store) → WellFormedStore b s → WellFormedStore b (operate_by b how (operation_on f op) s)
  unfolding operate_by
  operate_kept None below s wf = wf
  operate_kept (Flush c) below s wf = flush_kept b reg how f c hf (data_page b reg c below) s wf
  operate_kept (Purge c) below s wf = purge_kept b reg f c (data_page b reg c below) s wf
  operate_kept (PurgeInstructions c) below s wf = purge_kept b reg f (instruction_page b c) (instruction_page_lem b reg c below) s wf

  -- and so do two
  pub carry_out_kept : (ops : Ops) → OpBelow b.colours ops.first → OpBelow b.colours ops.second → (s : Store) → WellFormedStore b s
      → WellFormedStore b (carry_out_by b how (accepted f ops) s)
  unfolding carry_out_by
  carry_out_kept ops first second s wf = operate_kept ops.second second _ (operate_kept ops.first first s wf)

-- so an access may follow them
pub access_follows : (b : Board) (f : ℕ) (ops : Ops) (colour offset : ℕ) {s s' : Store} → AccessReady b s f ops colour offset → s' ≡ carry_out b (accepted f ops) s
    → WellFormedStore b s' × (f < b.frames) × (colour < cache_pages b) × (offset < b.page) × Regular b
access_follows b f ops colour offset r e =
    (subst⁻¹ (WellFormedStore b) e (carry_out_kept b r.6 leaving f r.1 ops r.2 r.3 _ r.0), r.1, r.4, r.5, r.6)
