-- The reads of a look, from a state that keeps demand 3's invariant: they keep it, and find the words of the frame behind the mapping.
use mathlib.Core.Path.{◌≡◌, refl, sym, ap, ◌∙◌}
use mathlib.Core.Bool.{Bool, true, false, cond}
use mathlib.Core.List.{List, [], ◌∷◌, ◌++◌}
use mathlib.Core.Option.{Option, some}
use Prim.Native.Nat.{ℕ, zero, suc, ◌<◌}
use native.Mathlib.Decide.{ℕ_discrete}
use native.Mathlib.Omega.{arith}
use lib.ListN.{length, get_or, length-append, get_or-append}
use lib.Seq.{get_or_at}
use Rattle.board.specs.declared.Board.{Board}
use Rattle.board.specs.Board.{Regular}
use Rattle.std.specs.Prelude as std
use Rattle.mapping.specs.Entry.{mapping_at}
use Rattle.mapping.specs.Lookup.{lookup, mapping_found, mapping_of, place_of}
use Rattle.cache.specs.Cache.{leaving}
use Rattle.machine.specs.Call.{call_causes, perform}
use Rattle.machine.specs.State.{State, page_frame, read, single}
use Rattle.machine.specs.Step.{accept}
use Rattle.machine.proofs.CallLaws.{perform_cases}
use Rattle.consistency.specs.Cacheless.{Cacheless, after_accepted}
use Rattle.consistency.specs.Demand3.{page_word}
use Rattle.consistency.specs.Flushes.{accept_by}
use Rattle.consistency.proofs.Invariant.{frame_in, Invariant}
use Rattle.consistency.proofs.Processor.{read_taken}
use Rattle.position_hold.specs.Fix.{hold_refused, refused}
use Rattle.position_hold.specs.Look.{Words, stopped, words, Reads, reads, with_answer, read_next, first_reads, fix_words, fix_reads, looked, drawn_from, look, Look}
use Rattle.position_hold.proofs.Told.{no_word}

module _ (b : Board) (reg : Regular b) (m : Cacheless) (space page : ℕ) where
  -- the words that k reads have found are the cacheless memory's
  abbrev pub FoundIn : ℕ → Words → Type 0
  FoundIn k (stopped n) = Unit {0}
  FoundIn k (words ws) = (length ws ≡ k) × ((j : ℕ) → j < k → page_word m (m.frame space page) j ≡ some (get_or ws j 0))

  pub record Kept (k : ℕ) (r : Reads) : Type 0 where
    pub invariant : Invariant b r.after m
    pub found : FoundIn k r.words

  -- one word more
  found_more : (k : ℕ) (ws : List ℕ) (w : ℕ) → FoundIn k (words ws) → some w ≡ page_word m (m.frame space page) k → FoundIn (suc k) (words (ws ++ w ∷ []))
  found_more k ws w h e =
      let long = h.0 in
      (simp length-append (omega arith), λ j l. go j l (ℕ_discrete j k))
    where
      go : (j : ℕ) → j < suc k → Dec (j ≡ k) → page_word m (m.frame space page) j ≡ some (get_or (ws ++ w ∷ []) j 0)
      go j l (yes z) =
          let long = h.0 in
          ap (page_word m (m.frame space page)) z ∙ sym e ∙ sym (ap {B = Option ℕ} some (get_or_at ws w [] 0 j (omega arith)))
      go j l (no z) =
          let long = h.0 in
          h.1 j (omega arith) ∙ sym (ap {B = Option ℕ} some (get_or-append ws (w ∷ []) 0 j (omega arith)))

  read_next_lem : (k : ℕ) (st : State) → Invariant b st m → (ws : Words) → FoundIn k ws → Kept (suc k) (read_next b space page k ws st)
  unfolding perform call_causes accept accept_by after_accepted
  read_next_lem k st inv (stopped n) h = record { invariant = inv; found = tt }
  read_next_lem k st inv (words ws) h =
      perform_cases b st (single (read space page k)) (λ r. Kept (suc k) (reads (with_answer ws r.answer.outcome r.answer.word) r.after))
      (λ e. let t = read_taken b reg leaving st m inv space page k e in record { invariant = t.1; found = found_more k ws _ h t.0 })
      (λ n _. record { invariant = inv; found = tt })

  pub first_reads_lem : (st : State) → Invariant b st m → (k : ℕ) → Kept k (first_reads b st space page k)
  unfolding first_reads
  first_reads_lem st inv zero = record { invariant = inv; found = (refl, λ j l. absurd (omega arith)) }
  first_reads_lem st inv (suc k) =
      let r = first_reads_lem st inv k in read_next_lem k (first_reads b st space page k).after r.invariant (first_reads b st space page k).words r.found

  -- so does a look
  pub look_kept : (st : State) → Invariant b st m → (clock hold : ℕ) → Invariant b (look b st space page clock hold).after m
  unfolding look fix_reads
  look_kept st inv clock hold = go (hold_refused hold)
    where
      go : (t : Bool)
          → let r : Reads = fix_reads b st space page in
          Invariant b (cond {A = Look} t (looked (refused 14) st) (looked (drawn_from clock hold r.words) r.after)).after m
      go true = inv
      go false = (first_reads_lem st inv fix_words).invariant

-- the frame that the cacheless memory has for a page is the lent list's
module _ (b : Board) (st : State) (m : Cacheless) (inv : Invariant b st m) (space page f : ℕ) where
  behind : (x : std.Option ℕ) → frame_in (mapping_found st.tables.list x) ≡ some f → (mapping_at st.tables.list (place_of x)).frame ≡ f
  behind (std.Some i) e = cc
  behind std.None e = absurd (no_word e)

  pub frame_lent : m.frame space page ≡ some f → page_frame st space page ≡ f
  unfolding mapping_of
  frame_lent e = behind (lookup st.tables.list space page) (sym (inv.frames_listed space page) ∙ e)
