-- The trial claims, from the laws alone.
use mathlib.Core.Path.{refl, ap, ◌∙◌}
use mathlib.Core.List.{List}
use Prim.Native.Nat.{ℕ}
use lib.ListN.{get_or}
use Rattle.board.specs.declared.Board.{Board}
use Rattle.board.specs.Board.{Regular, line_of, cache_at}
use Rattle.board.proofs.Geometry.{data_page, line_of_lt, line_of_colour}
use Rattle.cache.specs.Cache.{write_word, leaving, flush_line, write_back_as, evict}
use Rattle.cache.specs.Tag.{names}
use Rattle.cache.specs.Trial.{FlushedStaysIn, WrittenAndFlushed, FlushWritesDirty, FlushLeavesOthers, PurgedNamesNone, EmptyingEvicts}
use Rattle.cache.proofs.Laws.Access.{write_word_kept, write_word_tag_same, write_word_word_same}
use Rattle.cache.proofs.Laws.Operations.{flush_tag_same, flush_tag_left, flush_words, flush_memory_same, flush_memory_other, purge_names}
use Rattle.cache.proofs.Laws.Tag.{names_dirty}

module _ (b : Board) (reg : Regular b) where
  pub flushed_stays_in : FlushedStaysIn b
  flushed_stays_in f c o v s hf own ho wf =
      let hc = data_page b reg c own in
      let t = write_word b f c o v s in
      let kept = write_word_kept b reg f c o hf hc ho s wf own v in (
        flush_tag_same b reg leaving f c hf hc t kept (line_of b c o) (line_of_lt b reg c o hc ho) (line_of_colour b reg c o ho)
            (ap (λ (x : ℕ). names x f) (write_word_tag_same b reg f c o hf hc ho s wf v) ∙ names_dirty f),
        ap (λ (l : List ℕ). get_or l (cache_at b c o) 0) (flush_words b reg leaving f c hf hc t kept) ∙ write_word_word_same b reg f c o hf hc ho s wf v,
      )

  pub written_and_flushed : WrittenAndFlushed b
  written_and_flushed f c o v s hf own ho wf =
      let hc = data_page b reg c own in
      flush_memory_same b reg leaving f c hf hc (write_word b f c o v s) (write_word_kept b reg f c o hf hc ho s wf own v) o ho (write_word_tag_same b reg f c o hf hc ho s wf v)
      ∙ write_word_word_same b reg f c o hf hc ho s wf v

  pub flush_writes_dirty : FlushWritesDirty b
  flush_writes_dirty f c g o s hf hc ho wf out = flush_memory_other b reg leaving f c hf hc s wf g o ho out

  pub flush_leaves_others : FlushLeavesOthers b
  flush_leaves_others f c n s hf hc wf other = flush_tag_left b reg leaving f c hf hc s wf n other

  pub purged_names_none : PurgedNamesNone b
  purged_names_none f c n s hc hn wf e = purge_names b reg f c hc s wf n hn e

  pub emptying_evicts : EmptyingEvicts b
  unfolding flush_line write_back_as evict
  emptying_evicts f n s = refl
