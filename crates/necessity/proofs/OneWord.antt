-- On a page of one word the claim is false: a write through a stale colour leaves the same with its purge and without it, so that no later call can tell.
use mathlib.Core.Path.{◌≡◌, refl, sym, ap, subst, subst⁻¹, ◌∙◌}
use mathlib.Core.Bool.{Bool, true, false}
use mathlib.Core.List.{List, [], ◌∷◌}
use mathlib.Core.Logic.{◌⊎◌, inl, inr, ◌≢◌, ⊎_elim}
use mathlib.Core.Option.{none}
use Prim.Native.Nat.{ℕ, ◌<◌}
use native.Mathlib.Omega.{arith}
use native.Mathlib.Decide.{ℕ_discrete}
use borrow.Author.Tests.{ltb-true}
use lib.ListN.{length, get_or, replicate}
use Rattle.board.specs.declared.Board.{Board}
use Rattle.board.specs.Board.{Regular, memory_words, cache_words, lines, colour_of}
use Rattle.page_model.specs.declared.FrameRecord.{FrameRecord}
use Rattle.page_model.specs.declared.Op.TheVariants.{None, Purge}
use Rattle.page_model.specs.Step.{operations, first_two}
use Rattle.page_model.specs.Table as table
use Rattle.page_model.specs.Table.{dirty}
use Rattle.mapping.specs.Entry.{capacity}
use Rattle.manager.specs.Answers.{Outcome, accepted}
use Rattle.manager.specs.Tables.{record_at}
use Rattle.cache.specs.Cache.{purge, write_word}
use Rattle.cache.specs.Store.{Store, store, WellFormedStore, tag_at}
use Rattle.cache.specs.Tag.{dirty_tag, is_dirty_tag, tag_keeps_rules}
use Rattle.cache.proofs.Laws.Tag.{dirty_frame, rules_at, rules_below, rules_above}
use Rattle.machine.specs.Call.{perform}
use Rattle.machine.specs.Parts.{steps, effect_of, outcome_of}
use Rattle.machine.specs.State.{State, state, page_frame, Call, write}
use Rattle.machine.specs.Step.{operate_by, carry_out_by, carry_out, answer, result_of, tables_left, orders_of, accept_after, accept, step, unless_refused}
use Rattle.machine.proofs.Opened.{opened}
use Rattle.consistency.specs.Cacheless.{Cacheless, start_cacheless, fed}
use Rattle.consistency.specs.Demand3.{start_state, state_after, cacheless_after}
use Rattle.consistency.proofs.Invariant.{Invariant}
use Rattle.consistency.proofs.Pages.{page_states}
use Rattle.consistency.proofs.Start.{start_invariant}
use Rattle.consistency.proofs.Theorem.{serves}
use Rattle.necessity.specs.Action as action
use Rattle.necessity.specs.Necessity.{Needed, Necessary, one_word, NotOnOneWord}
use Rattle.necessity.specs.Without.{lacking, without_order}
use Rattle.necessity.proofs.Meaning.{not_the_same}

regular : Regular one_word
unfolding opened
regular =
    record {
      has_line_words = omega arith;
      has_page_words = omega arith;
      has_colours = omega arith;
      divides = refl;
      few_words = omega arith;
      few_colours = omega arith;
      few_frames = omega arith;
    }

-- ---- the store after the write

-- of an empty line, and of a clean one
computed_empty : (x a c u v : ℕ) → let s = store (x ∷ []) (a ∷ c ∷ []) (0 ∷ u ∷ []) in write_word one_word 0 0 0 v (purge one_word 0 0 s) ≡ write_word one_word 0 0 0 v s
unfolding opened
computed_empty x a c u v = refl

computed_clean : (x a c u v : ℕ) → let s = store (x ∷ []) (a ∷ c ∷ []) (1 ∷ u ∷ []) in write_word one_word 0 0 0 v (purge one_word 0 0 s) ≡ write_word one_word 0 0 0 v s
unfolding opened
computed_clean x a c u v = refl

-- lists of one and of two
one_of : (l : List ℕ) → length l ≡ 1 → (x : ℕ) × (l ≡ x ∷ [])
one_of [] h = absurd (omega arith)
one_of (x ∷ []) h = (x, refl)
one_of (x ∷ (y ∷ l)) h = absurd (omega arith)

two_of : (l : List ℕ) → length l ≡ 2 → (x : ℕ) × (y : ℕ) × (l ≡ x ∷ y ∷ [])
two_of [] h = absurd (omega arith)
two_of (x ∷ l) h = let z = one_of l (omega arith) in (x, z.0, ap (λ (r : List ℕ). x ∷ r) z.1)

-- a tag of the one frame that is not dirty
clean_tag_lem : (t : ℕ) → tag_keeps_rules one_word t ≡ true → t ≢ dirty_tag 0 → (t ≡ 0) ⊎ (t ≡ 1)
clean_tag_lem t rules clean = go (is_dirty_tag t) refl
  where
    zero_or : Dec (t ≡ 0) → t < 2 → (t ≡ 0) ⊎ (t ≡ 1)
    zero_or (yes e) h = inl e
    zero_or (no ne) h = inr (omega arith)

    go : (d : Bool) → is_dirty_tag t ≡ d → (t ≡ 0) ⊎ (t ≡ 1)
    go true e =
        let small = ltb-true t 130 (sym (rules_above one_word regular t e) ∙ rules) in
        let is = dirty_frame t e in
        absurd (clean (omega arith))
    go false e = zero_or (ℕ_discrete t 0) (ltb-true t 2 (sym (rules_below one_word regular t e) ∙ rules))

abbrev Same : ℕ → Store → Type 0
Same v s = write_word one_word 0 0 0 v (purge one_word 0 0 s) ≡ write_word one_word 0 0 0 v s

write_same : (v : ℕ) (s : Store) → WellFormedStore one_word s → tag_at s 0 ≢ dirty_tag 0 → Same v s
unfolding memory_words cache_words lines
write_same v s wf clean =
    let memory = one_of s.memory wf.memory_length in
    let words = two_of s.words wf.words_length in
    let tags = two_of s.tags wf.tags_length in
    let first = ap (λ (l : List ℕ). get_or l 0 0) tags.2 in
    let with_tag : (t : ℕ) → tag_at s 0 ≡ t → s ≡ store (memory.0 ∷ []) (words.0 ∷ words.1 ∷ []) (t ∷ tags.1 ∷ []) =
    λ t e i. store (memory.1 i) (words.2 i) ((tags.2 ∙ ap (λ (x : ℕ). x ∷ tags.1 ∷ []) (sym first ∙ e)) i) in
    ⊎_elim (λ e. subst⁻¹ (Same v) (with_tag 0 e) (computed_empty memory.0 words.0 words.1 tags.1 v))
    (λ e. subst⁻¹ (Same v) (with_tag 1 e) (computed_clean memory.0 words.0 words.1 tags.1 v))
    (clean_tag_lem (tag_at s 0) (rules_at one_word regular s.tags 0 wf.tags_rules) clean)

-- ---- the call

-- a record whose one colour is stale
abbrev stale_record : FrameRecord
stale_record = record { masks = record { held = 0; stale = 1 }; dirty = 0; busy = 0; dirty_colour = 1; instructions = record { held = 0; stale = 0 } }

module _ (st : State) (m : Cacheless) (inv : Invariant one_word st m) (reached : record_at st.tables.records 0 ≡ stale_record) (space page v : ℕ)
    (makes : effect_of one_word st (write space page 0 v) ≡ steps 0 (table.write 0)) where
  clean : tag_at st.store 0 ≢ dirty_tag 0
  unfolding opened
  clean e =
      let d = (inv.agrees 0 (omega arith)).tagged.dirty_colour 0 0 (omega arith) (omega arith) e in
      let s : page_states 1 stale_record 0 ≡ dirty = subst (λ (r : FrameRecord). page_states 1 r 0 ≡ dirty) reached d in
      let z : ◌≡◌ {A = ℕ} 0 1 = cc in omega arith

  orders : orders_of one_word st (write space page 0 v) ≡ accepted 0 (record { first = Purge 0; second = None })
  unfolding opened
  orders = ap (outcome_of one_word st.tables.records) makes ∙ ap (λ (r : FrameRecord). accepted 0 (first_two (operations 1 (table.write 0) r))) reached

  same_after : accept_after one_word st (write space page 0 v) (purge one_word 0 0 st.store) ≡ accept_after one_word st (write space page 0 v) st.store
  same_after =
      let frame_is : page_frame st space page ≡ 0 = cc in
      let colour-is : colour_of one_word page ≡ 0 = cc in
      let written : write_word one_word (page_frame st space page) (colour_of one_word page) 0 v (purge one_word 0 0 st.store) ≡ write_word one_word (page_frame st space page) (colour_of one_word page) 0 v st.store =
      rw (frame_is, colour-is) (write_same v st.store inv.kept clean) in
      ap (λ (s : Store). result_of (answer (orders_of one_word st (write space page 0 v)) none []) (state (tables_left one_word st (write space page 0 v)) s)) written

  -- with the purge and without it
  without_same : without_order one_word 0 st (write space page 0 v) ≡ step one_word st (write space page 0 v)
  unfolding without_order step accept carry_out_by operate_by
  without_same =
      ap (unless_refused one_word st (write space page 0 v))
      (ap (λ (o : Outcome). accept_after one_word st (write space page 0 v) (carry_out one_word (lacking 0 o) st.store)) orders
      ∙ sym same_after
      ∙ sym (ap (λ (o : Outcome). accept_after one_word st (write space page 0 v) (carry_out one_word o st.store)) orders))

-- ---- so it is not needed

module _ (b : Board) where
  run_invariant : Regular b → (st : State) (m : Cacheless) (calls : List Call) → Invariant b st m → Invariant b (state_after (perform b) st calls) (cacheless_after (perform b) st m calls)
  run_invariant reg st m [] inv = inv
  run_invariant reg st m (call ∷ calls) inv = run_invariant reg (perform b st call).after (fed m call (perform b st call).answer) calls (serves b reg st m inv call).1

module _ (claim : Necessary one_word) where
  abbrev memory : List ℕ
  memory = 0 ∷ []

  abbrev words : List ℕ
  words = 0 ∷ 0 ∷ []

  abbrev protections : List ℕ
  protections = replicate capacity 0

  needed : Needed one_word (start_state one_word memory words protections) (start_cacheless one_word memory) 0 stale_record (action.write 0 0 0) 0
  unfolding opened
  needed = claim memory words protections refl refl refl 0 stale_record (action.write 0 0 0) 0 (omega arith) refl (omega arith, omega arith) refl (omega arith)

  refuted : ⊥
  unfolding perform memory_words cache_words
  refuted =
      let from = start_state one_word memory words protections in
      let ref = start_cacheless one_word memory in
      let st = state_after (perform one_word) from needed.before in
      let m = cacheless_after (perform one_word) from ref needed.before in
      let inv = run_invariant one_word regular from ref needed.before (start_invariant one_word regular memory words protections refl refl refl) in
      let same = without_same st m inv needed.reached needed.space needed.page 0 needed.makes in
      not_the_same one_word regular memory words protections refl refl refl 0 stale_record (action.write 0 0 0) 0 needed same

pub not_on_one_word : NotOnOneWord
not_on_one_word claim = refuted claim
