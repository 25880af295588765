-- The laws of a run: runs one after the other, and what the code holds after each.
use mathlib.Core.Bool.{true, false}
use mathlib.Core.List.{List, [], ◌++◌, append_assoc, append-nil}
use Rattle.std.specs.Prelude.{Option}
use mathlib.Core.Path.{◌≡◌, refl, sym, ap, ap₂, subst, ◌∙◌}
use Prim.Native.Nat.{ℕ, zero, suc, ◌+◌, ◌<◌, ◌≤◌}
use native.Mathlib.Numerals.{add-one}
use native.Mathlib.Omega.{arith}
use lib.ListN.{length}
use borrow.Author.Tests.{lt-ltb, le-ltb}
use Rattle.board.specs.declared.Board.{Board}
use Rattle.board.specs.Board.{board01}
use Rattle.mapping.specs.Change.{empty}
use Rattle.manager.specs.Tables.{start_records}
use Rattle.mapping.specs.declared.MappingList.{MappingList}
use Rattle.manager.specs.Answers.{Outcome, number_of}
use Rattle.machine.specs.State.{State, Single, Answer}
use Rattle.machine.specs.Step.{step}
use Rattle.run_step.specs.Did.{Did}
use Rattle.sheet_codec.specs.Format.{most_mappings, most_steps, mapping_count, step_count, is_broken}
use Rattle.sheet_codec.specs.Put.{Put}
use Rattle.run_sheet.specs.Ran.{Ran}
use Rattle.run_sheet.specs.Run.{Run, start_with, sheet_start, run_from, advance, advance_all, after_mappings, after_steps, run_mappings, run_steps, closed, sheet_text, text_bytes, printed}
use Rattle.sheet_codec.specs.Text.{mapping_line, mapping_line_of, step_line, step_line_of, end_line, refused_line, line_bytes}
use Rattle.sheet_codec.specs.Totals.{flushes_of, purges_of}
use Rattle.sheet_codec.proofs.Written.{overlay_nil, put_both, put_as, put_within}

-- ---- runs one after the other

-- r, then s from where r ended
abbrev pub joined : Run → Run → Run
joined r s = record { machine = s.machine; text = r.text ++ s.text; flushes = r.flushes + s.flushes; purges = r.purges + s.purges }

record_same : {a b : Run} → a.machine ≡ b.machine → a.text ≡ b.text → a.flushes ≡ b.flushes → a.purges ≡ b.purges → a ≡ b
record_same e f g h = λ i. record { machine = e i; text = f i; flushes = g i; purges = h i }

module _ (b : Board) where
  joined_advance : (line : Single → Answer → List ℕ) (call : Single) (r s : Run) → advance b line call (joined r s) ≡ joined r (advance b line call s)
  unfolding advance
  joined_advance line call r s = record_same refl (append_assoc r.text s.text _) (omega arith) (omega arith)

  module _ (line : ℕ → Single → Answer → List ℕ) (call_at : ℕ → Single) where
    pub joined_all : (n : ℕ) (r : Run) → advance_all b line call_at n r ≡ joined r (advance_all b line call_at n (run_from r.machine))
    unfolding advance_all
    joined_all zero r = record_same refl (sym (append-nil r.text)) (omega arith) (omega arith)
    joined_all (suc n) r =
        ap (advance b (line n) (call_at n)) (joined_all n r)
        ∙ joined_advance (line n) (call_at n) r (advance_all b line call_at n (run_from r.machine))

-- ---- what the code holds

-- nothing called yet
pub ran_none : (line : ℕ → Single → Answer → List ℕ) (call_at : ℕ → Single) (l : List ℕ) (at : ℕ) (st : State)
    → Ran (advance_all board01 line call_at 0 (run_from st)) 0 l at st l at 0 0
unfolding advance_all
ran_none line call_at l at st =
    record {
      machine_is = refl;
      text_is = record { written = sym (overlay_nil l at); next_is = omega arith; short = omega arith };
      flushes_are = refl;
      purges_are = refl;
      few_flushes = omega arith;
      few_purges = omega arith;
    }

-- one call, of which a line is written
ran_one : (line : Single → Answer → List ℕ) {st next : State} {call : Single} {o : Outcome} {w : Option ℕ} {l m s : List ℕ} {at k f p : ℕ}
    → Did st call next o w
    → Put l at s line_bytes m k
    → s ≡ line call (step board01 st call).answer
    → (f ≡ flushes_of o) × (f ≤ 2)
    → (p ≡ purges_of o) × (p ≤ 2)
    → Ran (advance board01 line call (run_from st)) 1 l at next m k f p
unfolding advance
ran_one line d put e f p =
    record {
      machine_is = d.after;
      text_is = put_as e (omega arith) put;
      flushes_are = omega (arith, f.0, ap flushes_of d.answered);
      purges_are = omega (arith, p.0, ap purges_of d.answered);
      few_flushes = omega (arith, f.1);
      few_purges = omega (arith, p.1);
    }

pub ran_mapping : (n : ℕ) {st next : State} {call : Single} {o : Outcome} {w : Option ℕ} {l m : List ℕ} {at k f p x : ℕ}
    → Did st call next o w
    → x ≡ number_of o
    → Put l at (mapping_line n x) line_bytes m k
    → (f ≡ flushes_of o) × (f ≤ 2)
    → (p ≡ purges_of o) × (p ≤ 2)
    → Ran (advance board01 (mapping_line_of n) call (run_from st)) 1 l at next m k f p
ran_mapping n d e put f p = ran_one (mapping_line_of n) d put (ap (mapping_line n) (e ∙ ap number_of d.answered)) f p

pub ran_step : (n : ℕ) {st next : State} {call : Single} {o : Outcome} {w : Option ℕ} {l m : List ℕ} {at k f p : ℕ}
    → Did st call next o w
    → Put l at (step_line n o w) line_bytes m k
    → (f ≡ flushes_of o) × (f ≤ 2)
    → (p ≡ purges_of o) × (p ≤ 2)
    → Ran (advance board01 (step_line_of n) call (run_from st)) 1 l at next m k f p
ran_step n d put f p = ran_one (step_line_of n) d put (ap₂ (step_line n) d.answered d.shown) f p

-- a run and another from where it ended
ran_both : {r s : Run} {i j : ℕ} {l m n : List ℕ} {at k end f g p q : ℕ} {st next : State}
    → Ran r i l at st m k f p
    → Ran s j m k next n end g q
    → Ran (joined r s) (i + j) l at next n end (f + g) (p + q)
ran_both x y =
    record {
      machine_is = y.machine_is;
      text_is = put_within (omega arith) (put_both x.text_is y.text_is);
      flushes_are = ap₂ ◌+◌ x.flushes_are y.flushes_are;
      purges_are = ap₂ ◌+◌ x.purges_are y.purges_are;
      few_flushes = omega (arith, x.few_flushes, y.few_flushes);
      few_purges = omega (arith, x.few_purges, y.few_purges);
    }

-- the same run, by another name
pub ran_as : {r s : Run} {i : ℕ} {l m : List ℕ} {at k f p : ℕ} {st : State} → r ≡ s → Ran r i l at st m k f p → Ran s i l at st m k f p
ran_as {i = i} {l = l} {m = m} {at = at} {k = k} {f = f} {p = p} {st = st} e x = subst (λ (r : Run). Ran r i l at st m k f p) e x

module _ (line : ℕ → Single → Answer → List ℕ) (call_at : ℕ → Single) where
  joined_next : (i : ℕ) (r : Run) → advance board01 (line i) (call_at i) r ≡ joined r (advance board01 (line i) (call_at i) (run_from r.machine))
  unfolding advance
  joined_next i r = record_same refl refl (omega arith) (omega arith)

  -- one call more
  pub ran_next : (st : State) {i : ℕ} {l m n : List ℕ} {at k end f g p q : ℕ} {now next : State}
      → Ran (advance_all board01 line call_at i (run_from st)) i l at now m k f p
      → Ran (advance board01 (line i) (call_at i) (run_from now)) 1 m k next n end g q
      → Ran (advance_all board01 line call_at (i + 1) (run_from st)) (i + 1) l at next n end (f + g) (p + q)
  unfolding advance_all
  ran_next st {i = i} {now = now} x y =
      let from : ℕ → Run = λ (k : ℕ). advance_all board01 line call_at k (run_from st) in
      ran_as
      (ap (λ (m : State). joined (from i) (advance board01 (line i) (call_at i) (run_from m))) x.machine_is
      ∙ sym (joined_next i (from i))
      ∙ ap from (sym (add-one i)))
      (ran_both x y)

  -- all calls from where a run ended
  pub ran_all : {r : Run} {j i : ℕ} {l m n : List ℕ} {at k end f g p q : ℕ} {now next : State}
      → Ran r j l at now m k f p
      → Ran (advance_all board01 line call_at i (run_from now)) i m k next n end g q
      → Ran (advance_all board01 line call_at i r) (j + i) l at next n end (f + g) (p + q)
  ran_all {r = r} {i = i} x y =
      ran_as
      (ap (λ (m : State). joined r (advance_all board01 line call_at i (run_from m))) x.machine_is ∙ sym (joined_all board01 line call_at i r))
      (ran_both x y)

-- ---- the whole sheet

-- the last line after the calls
pub ran_closed : {r : Run} {i : ℕ} {l m n : List ℕ} {k end f p : ℕ} {st : State} → i ≤ most_mappings + most_steps
    → Ran r i l 0 st m k f p
    → Put m k (end_line f p) line_bytes n end
    → Put l 0 (closed r) text_bytes n end
ran_closed {r = r} h x y =
    put_as (ap₂ (λ (f p : ℕ). r.text ++ end_line f p) x.flushes_are x.purges_are) (omega arith) (put_both x.text_is y)

module _ (sheet : List ℕ) (list : MappingList) (records : List ℕ) (m n : ℕ) where
  pub run_is : list ≡ empty → records ≡ start_records board01.frames board01.colours → m ≡ mapping_count sheet → n ≡ step_count sheet
      → after_steps board01 sheet n (after_mappings board01 sheet m (run_from (start_with board01 list records))) ≡ run_steps board01 sheet
  unfolding sheet_start run_steps run_mappings
  run_is e r f g = rw (e, r, f, g)

module _ (l sheet : List ℕ) where
  pub printed_nothing : length l < text_bytes → Put l 0 (printed (length l) sheet) text_bytes l 0
  unfolding printed
  printed_nothing h =
      let nothing : Put l 0 [] 0 l 0 = record { written = sym (overlay_nil l 0); next_is = refl; short = omega arith } in
      put_as (sym (rw (lt-ltb (length l) text_bytes h) refl)) (omega arith) nothing

  text_refused : is_broken sheet ≡ true → refused_line ≡ sheet_text board01 sheet
  unfolding sheet_text
  text_refused e = rw (e, sheet_text) refl

  text_run : is_broken sheet ≡ false → closed (run_steps board01 sheet) ≡ sheet_text board01 sheet
  unfolding sheet_text
  text_run e = rw (e, sheet_text) refl

  module _ {m : List ℕ} {k : ℕ} (h : text_bytes ≤ length l) where
    printed_text : {s : List ℕ} {a : ℕ} → s ≡ sheet_text board01 sheet → a ≤ text_bytes → Put l 0 s a m k
        → Put l 0 (printed (length l) sheet) text_bytes m k
    unfolding printed
    printed_text e f x = put_as (e ∙ sym (rw (le-ltb (length l) text_bytes h) refl)) f x

    pub printed_refusal : is_broken sheet ≡ true → Put l 0 refused_line line_bytes m k → Put l 0 (printed (length l) sheet) text_bytes m k
    printed_refusal e x = printed_text (text_refused e) (omega arith) x

    pub printed_run : is_broken sheet ≡ false → Put l 0 (closed (run_steps board01 sheet)) text_bytes m k → Put l 0 (printed (length l) sheet) text_bytes m k
    printed_run e x = printed_text (text_run e) (omega arith) x
