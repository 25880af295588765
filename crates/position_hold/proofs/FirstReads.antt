-- Laws of the reads of a look: one more, after words or after a refusal, and the words of a fix.
use mathlib.Core.Path.{◌≡◌, refl, sym, ap, subst, subst⁻¹, ◌∙◌}
use mathlib.Core.List.{List, [], ◌∷◌}
use mathlib.Core.Option.{Option, none, some}
use Prim.Native.Nat.{ℕ, zero, suc, ◌≤◌, ◌<◌}
use native.Mathlib.Decide.{ℕ_discrete}
use native.Mathlib.Omega.{arith}
use lib.ListN.{length, get_or, take, set, length-append}
use lib.Seq.{take_all, take-suc-set}
use Rattle.std.proofs.Common.{Ok}
use Rattle.std.proofs.Common as std
use Rattle.std.proofs.lemmas.Result.{err_from_is_err_and}
use Rattle.std.specs.Result.{IsErrAnd}
use Rattle.board.specs.declared.Board.{Board}
use Rattle.manager.specs.Answers as outcome
use Rattle.manager.specs.Answers.{Outcome, refusal_number}
use Rattle.manager.specs.declared.refusal.Refusal.{Refusal}
use Rattle.machine.specs.declared.Loaded.{Loaded}
use Rattle.machine.specs.State.{State, read, Answer, Result}
use Rattle.machine.specs.Step.{loaded as answered, result_of, step}
use Rattle.position_hold.specs.Fix.{Fix}
use Rattle.position_hold.specs.Look.{Words, stopped, words, Reads, reads, with_answer, read_next, first_reads, fix_words, fix_reads, words_found}

four : (l : List ℕ) → length l ≡ fix_words → get_or l 0 0 ∷ get_or l 1 0 ∷ get_or l 2 0 ∷ get_or l 3 0 ∷ [] ≡ take fix_words l
four [] e = absurd (omega arith)
four (x ∷ []) e = absurd (omega arith)
four (x ∷ y ∷ []) e = absurd (omega arith)
four (x ∷ y ∷ z ∷ []) e = absurd (omega arith)
four (x ∷ y ∷ z ∷ w ∷ l) e = refl

pub all_four : (l : List ℕ) → length l ≡ fix_words → get_or l 0 0 ∷ get_or l 1 0 ∷ get_or l 2 0 ∷ get_or l 3 0 ∷ [] ≡ l
all_four l e = four l e ∙ take_all fix_words l (omega arith)

-- k reads that are not refused find k words
abbrev Long : ℕ → Words → Type 0
Long k (stopped n) = Unit {0}
Long k (words ws) = length ws ≡ k

answer_long : (k : ℕ) (ws : List ℕ) (o : Outcome) (word : Option ℕ) → length ws ≡ k → Long (suc k) (with_answer ws o word)
answer_long k ws (outcome.refused n) word h = tt
answer_long k ws (outcome.accepted f ops) none h = tt
answer_long k ws (outcome.accepted f ops) (some w) h = simp length-append (omega arith)

module _ (b : Board) (st : State) (space page : ℕ) where
  next_long : (k : ℕ) (s : State) (ws : Words) → Long k ws → Long (suc k) (read_next b space page k ws s).words
  next_long k s (stopped n) h = tt
  next_long k s (words ws) h = let r : Result = step b s (read space page k) in answer_long k ws r.answer.outcome r.answer.word h

  reads_long : (k : ℕ) → Long k (first_reads b st space page k).words
  unfolding first_reads
  reads_long zero = refl
  reads_long (suc k) = let r : Reads = first_reads b st space page k in next_long k r.after r.words (reads_long k)

  pub fix_long : (ws : List ℕ) → (fix_reads b st space page).words ≡ words ws → length ws ≡ fix_words
  unfolding fix_reads
  fix_long ws e = subst (Long fix_words) e (reads_long fix_words)

  pub reads_next : (k : ℕ) {ws : List ℕ} {s after : State} {a : Answer} → reads (words ws) s ≡ first_reads b st space page k
      → result_of a after ≡ step b s (read space page k)
      → reads (with_answer ws a.outcome a.word) after ≡ first_reads b st space page (suc k)
  unfolding first_reads
  reads_next k {ws} e made =
      ap (λ (r : Result). reads (with_answer ws r.answer.outcome r.answer.word) r.after) made
      ∙ ap (λ (r : Reads). read_next b space page k r.words r.after) e

  -- after a refusal none is made
  pub reads_stopped : (k n : ℕ) → k ≤ n → {number : ℕ} {s : State} → reads (stopped number) s ≡ first_reads b st space page k
      → reads (stopped number) s ≡ first_reads b st space page n
  unfolding first_reads
  reads_stopped k zero h e = let none : k ≡ 0 = omega arith in e ∙ ap (first_reads b st space page) none
  reads_stopped k (suc n) h {number} {s} e = go (λ l. reads_stopped k n l e) (ℕ_discrete k (suc n))
    where
      go : (k ≤ n → reads (stopped number) s ≡ first_reads b st space page n) → Dec (k ≡ suc n) → reads (stopped number) s ≡ first_reads b st space page (suc n)
      go before (yes z) = e ∙ ap (first_reads b st space page) z
      go before (no z) = ap (λ (r : Reads). read_next b space page n r.words r.after) (before (omega arith))

  -- read k is refused
  pub reads_refused : (k : ℕ) → k < fix_words → {ws : List ℕ} {s after : State} {loaded : std.Result Loaded Refusal} {refusal : Refusal} (found : std.Result Fix Refusal)
      → reads (words ws) s ≡ first_reads b st space page k
      → result_of (answered loaded) after ≡ step b s (read space page k) → loaded ≡ std.Err refusal → IsErrAnd found (λ y. y ≡ refusal)
      → reads (words_found found) after ≡ fix_reads b st space page
  unfolding fix_reads
  reads_refused k h {after = after} found e made known is =
      let p = err_from_is_err_and found is in
      rw (p.1, p.2) (reads_stopped (suc k) fix_words h (reads_next k e (ap (λ (r : std.Result Loaded Refusal). result_of (answered r) after) (sym known) ∙ made)))

  -- it finds a word, which is put behind those before it
  pub reads_put : (k n : ℕ) → n ≡ suc k → (found : List ℕ) {s after : State} {loaded : std.Result Loaded Refusal} {l : Loaded} → k < length found
      → reads (words (take k found)) s ≡ first_reads b st space page k
      → result_of (answered loaded) after ≡ step b s (read space page k) → loaded ≡ Ok l
      → reads (words (take n (set found k l.word))) after ≡ first_reads b st space page n
  reads_put k n more found {s} {after} {loaded} {l} h e made known =
      subst⁻¹ (λ (j : ℕ). reads (words (take j (set found k l.word))) after ≡ first_reads b st space page j) more
      (ap (λ (ws : List ℕ). reads (words ws) after) (take-suc-set found k l.word h)
      ∙ reads_next k e (ap (λ (r : std.Result Loaded Refusal). result_of (answered r) after) (sym known) ∙ made))

  -- the words of a fix, one by one
  pub reads_fix : (k : ℕ) → k ≡ fix_words → (found : List ℕ) {s : State} → length found ≡ fix_words → reads (words (take k found)) s ≡ first_reads b st space page k
      → reads (words (get_or found 0 0 ∷ get_or found 1 0 ∷ get_or found 2 0 ∷ get_or found 3 0 ∷ [])) s ≡ fix_reads b st space page
  unfolding fix_reads
  reads_fix k all found {s} long e =
      ap (λ (ws : List ℕ). reads (words ws) s) (four found long) ∙ subst (λ (j : ℕ). reads (words (take j found)) s ≡ first_reads b st space page j) all e
