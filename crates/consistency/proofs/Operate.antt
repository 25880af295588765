-- One operation of a step, carried out on frame f by either flush: f's colour is then clean after a flush and empty after a purge, and all else
-- is as it was.
use mathlib.Core.Path.{◌≡◌, refl, ap}
use mathlib.Core.Bool.{false}
use mathlib.Core.List.{List}
use mathlib.Core.Logic.{◌≢◌}
use Prim.Native.Nat.{ℕ, ◌+◌, ◌<◌}
use lib.ListN.{get_or}
use Rattle.board.specs.declared.Board.{Board}
use Rattle.board.specs.Board.{Regular, cache_pages, instruction_page, line_of, cache_at}
use Rattle.board.proofs.Geometry.{data_page, instruction_page_lem, line_of_lt, line_of_colour}
use Rattle.page_model.specs.declared.Op.{Op}
use Rattle.page_model.specs.declared.Op.TheVariants.{None, Flush, Purge, PurgeInstructions}
use Rattle.page_model.specs.Step.{OpBelow}
use Rattle.page_model.specs.Table.{ColourState, dirty}
use Rattle.manager.specs.Answers.{operation_on}
use Rattle.cache.specs.Store.{Store, WellFormedStore, tag_at}
use Rattle.cache.specs.Tag.{dirty_tag, names}
use Rattle.cache.specs.Cache as hardware
use Rattle.cache.specs.Cache.{FlushKind}
use Rattle.cache.specs.Current.{Current}
use Rattle.cache.proofs.Laws.Operations.{flush_words, flush_names, flush_dirty_from, flush_clean, purge_words, purge_tag_from, purge_names}
use Rattle.cache.proofs.Current.Line.{flush_current}
use Rattle.cache.proofs.Current.Purge.{purge_current}
use Rattle.machine.specs.Step.{operate_by}
use Rattle.consistency.proofs.Agrees.{Tagged, Agrees, Untouched, emptied, untouched_tagged, untouched_agrees}
use Rattle.consistency.proofs.Weaker.{empty_at, empty_tagged, empty_agrees, clean_at, clean_tagged, clean_agrees}

-- the states after it, where there are n colours
abbrev pub states_left : ℕ → Op → (ℕ → ColourState) → ℕ → ColourState
states_left n None states = states
states_left n (Flush c) states = clean_at c states
states_left n (Purge c) states = empty_at c states
states_left n (PurgeInstructions c) states = empty_at (n + c) states

-- the operation is no purge of a dirty page
abbrev pub SparesDirty : ℕ → Op → (ℕ → ColourState) → Type 0
SparesDirty n None states = Unit {0}
SparesDirty n (Flush c) states = Unit {0}
SparesDirty n (Purge c) states = states c ≢ dirty
SparesDirty n (PurgeInstructions c) states = states (n + c) ≢ dirty

module _ (b : Board) (reg : Regular b) (how : FlushKind) (f : ℕ) (hf : f < b.frames) (s : Store) (wf : WellFormedStore b s) where
  -- ---- a flush and a purge in a page of the caches

  module _ (c : ℕ) (h : c < cache_pages b) where
    flush_untouched : (g : ℕ) → g < b.frames → Untouched b g s (hardware.flush_by b how f c s)
    flush_untouched g hg =
        record {
          names_from = λ d o hd ho n. flush_names b reg how f c hf h s wf (line_of b d o) g (line_of_lt b reg d o hd ho) hg n;
          dirty_from = λ d o hd ho t. flush_dirty_from b reg how f c hf h s wf (line_of b d o) g (line_of_lt b reg d o hd ho) t;
          word_from = λ d o hd ho n. ap (λ (l : List ℕ). get_or l (cache_at b d o) 0) (flush_words b reg how f c hf h s wf);
        }

    purge_untouched : (g : ℕ) → Untouched b g s (hardware.purge b f c s)
    purge_untouched = emptied b reg s (hardware.purge b f c s) (purge_tag_from b reg f c h s wf) (purge_words b reg f c h s wf)

    flush_none : (o : ℕ) → o < b.page → tag_at (hardware.flush_by b how f c s) (line_of b c o) ≢ dirty_tag f
    flush_none o ho = flush_clean b reg how f c hf h s wf (line_of b c o) (line_of_lt b reg c o h ho) (line_of_colour b reg c o ho)

    purged : (o : ℕ) → o < b.page → names (tag_at (hardware.purge b f c s) (line_of b c o)) f ≡ false
    purged o ho = purge_names b reg f c h s wf (line_of b c o) (line_of_lt b reg c o h ho) (line_of_colour b reg c o ho)

    purge_other : (g : ℕ) (words : ℕ → ℕ) → g ≢ f → Current b g words s → Current b g words (hardware.purge b f c s)
    purge_other g words ne cur = purge_current b reg f c hf h g words s wf cur (λ o ho e d. ne e)

    flush_tagged : (states : ℕ → ColourState) → Tagged b f states s → Tagged b f (clean_at c states) (hardware.flush_by b how f c s)
    flush_tagged states t =
        clean_tagged b f c states (hardware.flush_by b how f c s) flush_none
        (untouched_tagged b f states s (hardware.flush_by b how f c s) (flush_untouched f hf) t)

    purge_tagged : (states : ℕ → ColourState) → Tagged b f states s → Tagged b f (empty_at c states) (hardware.purge b f c s)
    purge_tagged states t = empty_tagged b f c states (hardware.purge b f c s) purged (untouched_tagged b f states s (hardware.purge b f c s) (purge_untouched f) t)

    flush_agrees : (states : ℕ → ColourState) (words : ℕ → ℕ) → Agrees b f states words s → Agrees b f (clean_at c states) words (hardware.flush_by b how f c s)
    flush_agrees states words a =
        clean_agrees b f c states (hardware.flush_by b how f c s) flush_none words
        (untouched_agrees b f states s (hardware.flush_by b how f c s) (flush_untouched f hf) words
        (flush_current b reg how f c hf h f words s wf a.current) a)

    purge_agrees : (states : ℕ → ColourState) (words : ℕ → ℕ) → states c ≢ dirty → Agrees b f states words s → Agrees b f (empty_at c states) words (hardware.purge b f c s)
    purge_agrees states words spares a =
        empty_agrees b f c states (hardware.purge b f c s) purged words
        (untouched_agrees b f states s (hardware.purge b f c s) (purge_untouched f) words
        (purge_current b reg f c hf h f words s wf a.current (λ o ho e d. spares (a.tagged.dirty_colour c o h ho d))) a)

  -- ---- an operation

  untouched : (op : Op) → OpBelow b.colours op → (g : ℕ) → g < b.frames → Untouched b g s (operate_by b how (operation_on f op) s)
  unfolding operate_by
  untouched None h g hg = emptied b reg s s (λ n g l e. refl) refl g
  untouched (Flush c) h g hg = flush_untouched c (data_page b reg c h) g hg
  untouched (Purge c) h g hg = purge_untouched c (data_page b reg c h) g
  untouched (PurgeInstructions c) h g hg = purge_untouched (instruction_page b c) (instruction_page_lem b reg c h) g

  other_current : (op : Op) → OpBelow b.colours op → (g : ℕ) (words : ℕ → ℕ) → g ≢ f → Current b g words s
      → Current b g words (operate_by b how (operation_on f op) s)
  unfolding operate_by
  other_current None h g words ne cur = cur
  other_current (Flush c) h g words ne cur = flush_current b reg how f c hf (data_page b reg c h) g words s wf cur
  other_current (Purge c) h g words ne cur = purge_other c (data_page b reg c h) g words ne cur
  other_current (PurgeInstructions c) h g words ne cur = purge_other (instruction_page b c) (instruction_page_lem b reg c h) g words ne cur

  pub operate_other : (op : Op) → OpBelow b.colours op → (g : ℕ) → g < b.frames → (states : ℕ → ColourState) (words : ℕ → ℕ) → g ≢ f → Agrees b g states words s
      → Agrees b g states words (operate_by b how (operation_on f op) s)
  operate_other op h g hg states words ne a =
      untouched_agrees b g states s (operate_by b how (operation_on f op) s) (untouched op h g hg) words (other_current op h g words ne a.current) a

  pub operate_tagged : (op : Op) → OpBelow b.colours op → (states : ℕ → ColourState) → Tagged b f states s
      → Tagged b f (states_left b.colours op states) (operate_by b how (operation_on f op) s)
  unfolding operate_by
  operate_tagged None h states t = t
  operate_tagged (Flush c) h states t = flush_tagged c (data_page b reg c h) states t
  operate_tagged (Purge c) h states t = purge_tagged c (data_page b reg c h) states t
  operate_tagged (PurgeInstructions c) h states t = purge_tagged (instruction_page b c) (instruction_page_lem b reg c h) states t

  pub operate_agrees : (op : Op) → OpBelow b.colours op → (states : ℕ → ColourState) (words : ℕ → ℕ) → SparesDirty b.colours op states → Agrees b f states words s
      → Agrees b f (states_left b.colours op states) words (operate_by b how (operation_on f op) s)
  unfolding operate_by
  operate_agrees None h states words spares a = a
  operate_agrees (Flush c) h states words spares a = flush_agrees c (data_page b reg c h) states words a
  operate_agrees (Purge c) h states words spares a = purge_agrees c (data_page b reg c h) states words spares a
  operate_agrees (PurgeInstructions c) h states words spares a = purge_agrees (instruction_page b c) (instruction_page_lem b reg c h) states words spares a
