-- Lines of a page of the caches that operations on other pages leave as they are, and memory that purges leave.
use mathlib.Core.Path.{◌≡◌, refl, sym, ap, ◌∙◌}
use mathlib.Core.List.{List}
use mathlib.Core.Logic.{◌≢◌}
use Prim.Native.Nat.{ℕ, ◌+◌, ◌<◌}
use lib.ListN.{get_or}
use Rattle.board.specs.declared.Board.{Board}
use Rattle.board.specs.Board.{Regular, cache_pages, instruction_page, line_of, line_colour, cache_at}
use Rattle.board.proofs.Geometry.{data_page, instruction_page_lem, line_of_colour}
use Rattle.page_model.specs.declared.Op.{Op}
use Rattle.page_model.specs.declared.Op.TheVariants.{None, Flush, Purge, PurgeInstructions}
use Rattle.page_model.specs.declared.Ops.{Ops}
use Rattle.page_model.specs.Step.{OpBelow}
use Rattle.manager.specs.Answers.{operation_on, accepted}
use Rattle.cache.specs.Cache as hardware
use Rattle.cache.specs.Cache.{FlushKind}
use Rattle.cache.specs.Store.{Store, WellFormedStore, tag_at, word_at}
use Rattle.cache.proofs.Laws.Operations.{flush_words, flush_tag_other, purge_words, purge_tag_other, purge_memory}
use Rattle.machine.specs.Step.{operate_by, carry_out_by}
use Rattle.machine.proofs.StoreLaws.{operate_kept}

-- an operation that is not on page x, where there are n colours
abbrev pub Elsewhere : ℕ → ℕ → Op → Type 0
Elsewhere n x None = Unit {0}
Elsewhere n x (Flush c) = c ≢ x
Elsewhere n x (Purge c) = c ≢ x
Elsewhere n x (PurgeInstructions c) = n + c ≢ x

abbrev pub NoFlush : Op → Type 0
NoFlush None = Unit {0}
NoFlush (Flush c) = ⊥
NoFlush (Purge c) = Unit {0}
NoFlush (PurgeInstructions c) = Unit {0}

-- the line of offset p in page x, and its word there, are as they were
pub record SameLine (b : Board) (x p : ℕ) (s t : Store) : Type 0 where
  pub tag : tag_at t (line_of b x p) ≡ tag_at s (line_of b x p)
  pub word : word_at b t x p ≡ word_at b s x p

pub same_then : (b : Board) (x p : ℕ) (s t u : Store) → SameLine b x p s t → SameLine b x p t u → SameLine b x p s u
same_then b x p s t u g h = record { tag = h.tag ∙ g.tag; word = h.word ∙ g.word }

same_words : (b : Board) (x p : ℕ) (s t : Store) → tag_at t (line_of b x p) ≡ tag_at s (line_of b x p) → t.words ≡ s.words → SameLine b x p s t
same_words b x p s t tag words = record { tag = tag; word = ap (λ (l : List ℕ). get_or l (cache_at b x p) 0) words }

module _ (b : Board) (reg : Regular b) (how : FlushKind) (f : ℕ) (hf : f < b.frames) where
  -- ---- operations

  module _ (s : Store) (wf : WellFormedStore b s) (x p : ℕ) (hp : p < b.page) where
    elsewhere : (c : ℕ) → c ≢ x → line_colour b (line_of b x p) ≢ c
    elsewhere c ne e = ne (sym e ∙ line_of_colour b reg x p hp)

    purge_line_lem : (c : ℕ) → c < cache_pages b → c ≢ x → SameLine b x p s (hardware.purge b f c s)
    purge_line_lem c h e = same_words b x p s _ (purge_tag_other b reg f c h s wf (line_of b x p) (elsewhere c e)) (purge_words b reg f c h s wf)

    operate_line : (op : Op) → OpBelow b.colours op → Elsewhere b.colours x op → SameLine b x p s (operate_by b how (operation_on f op) s)
    unfolding operate_by
    operate_line None h e = record { tag = refl; word = refl }
    operate_line (Flush c) h e =
        let hc = data_page b reg c h in
        same_words b x p s _ (flush_tag_other b reg how f c hf hc s wf (line_of b x p) (elsewhere c e)) (flush_words b reg how f c hf hc s wf)
    operate_line (Purge c) h e = purge_line_lem c (data_page b reg c h) e
    operate_line (PurgeInstructions c) h e = purge_line_lem (instruction_page b c) (instruction_page_lem b reg c h) e

  -- purges leave memory
  operate_memory : (t : Store) → WellFormedStore b t → (op : Op) → OpBelow b.colours op → NoFlush op → (operate_by b how (operation_on f op) t).memory ≡ t.memory
  unfolding operate_by
  operate_memory t w None l e = refl
  operate_memory t w (Flush c) l e = absurd e
  operate_memory t w (Purge c) l e = purge_memory b reg f c (data_page b reg c l) t w
  operate_memory t w (PurgeInstructions c) l e = purge_memory b reg f (instruction_page b c) (instruction_page_lem b reg c l) t w

  module _ (s : Store) (wf : WellFormedStore b s) (ops : Ops) (h : OpBelow b.colours ops.first) (g : OpBelow b.colours ops.second) where
    between : WellFormedStore b (operate_by b how (operation_on f ops.first) s)
    between = operate_kept b reg how f hf ops.first h s wf

    pub carry_line : (x p : ℕ) → p < b.page → Elsewhere b.colours x ops.first → Elsewhere b.colours x ops.second → SameLine b x p s (carry_out_by b how (accepted f ops) s)
    unfolding carry_out_by
    carry_line x p hp e i =
        let mid = operate_by b how (operation_on f ops.first) s in
        same_then b x p s mid (operate_by b how (operation_on f ops.second) mid) (operate_line s wf x p hp ops.first h e) (operate_line mid between x p hp ops.second g i)

    pub carry_memory : NoFlush ops.first → NoFlush ops.second → (carry_out_by b how (accepted f ops) s).memory ≡ s.memory
    unfolding carry_out_by
    carry_memory e i = operate_memory (operate_by b how (operation_on f ops.first) s) between ops.second g i ∙ operate_memory s wf ops.first h e
