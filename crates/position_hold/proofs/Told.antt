-- The cacheless memory beside the accepted calls: it has the word that was last sent, and the frame that was last mapped.
use mathlib.Core.Path.{◌≡◌, refl, ap, subst⁻¹, ◌∙◌}
use mathlib.Core.Bool.{Bool, true, false, cond, ◌&&◌}
use mathlib.Core.List.{List, [], ◌∷◌, ◌++◌}
use mathlib.Core.Logic.{inl, inr}
use mathlib.Core.Option.{Option, none, some}
use Prim.Native.Nat.{ℕ, zero, suc, ◌+◌}
use native.Mathlib.Omega.{arith}
use lib.Dec.{eqb, leb, ltb}
use lib.ListN.{length}
use Rattle.board.specs.declared.Board.{Board}
use Rattle.mapping.specs.declared.Mapping.{Mapping}
use Rattle.manager.specs.Batch.{item_at}
use Rattle.machine.specs.Call.{map_of}
use Rattle.machine.specs.State.{Single, map, unmap, read, write, device_read, device_write, device_write_part, evict, begin_read, begin_write, bring_word, take_word, end_transfer, fetch, Call, single, map_all, Answer}
use Rattle.consistency.specs.Cacheless.{Cacheless, start_cacheless, stored, after_accepted, after_single, items_taken, is_refused, item_refused, fed}
use Rattle.position_hold.specs.Sent.{mapped_frame, is_frame, WordEffect, sends, overwrites, leaves, sent_after, last_sent, LeftBy, SentBy, items_and, accepted_and}

pub record Told (m : Cacheless) (calls : List Single) : Type 0 where
  pub words_told : (f o w : ℕ) → last_sent calls f o ≡ some w → m.word f o ≡ w
  pub frames_told : (space page : ℕ) → m.frame space page ≡ mapped_frame calls space page

pub no_word : {w : ℕ} → ◌≡◌ {A = Option ℕ} none (some w) → ⊥
no_word e = let z : ◌≡◌ {A = ℕ} 0 1 = cc in omega arith

-- nothing has been sent at the start, and nothing is mapped
pub told_start : (b : Board) (memory : List ℕ) → Told (start_cacheless b memory) []
unfolding start_cacheless
told_start b memory = record { words_told = λ f o w e. absurd (no_word e); frames_told = λ space page. refl }

-- ---- calls one after the other

module _ (earlier : List Single) (f o : ℕ) where
  after : (calls : List Single) {x y : WordEffect} → x ≡ y → sent_after x (last_sent (calls ++ earlier) f o) ≡ sent_after y (last_sent (calls ++ earlier) f o)
  after calls e = ap (λ (x : WordEffect). sent_after x (last_sent (calls ++ earlier) f o)) e

  pub left_by_lem : (later : List Single) → LeftBy later earlier f o → last_sent (later ++ earlier) f o ≡ last_sent earlier f o
  left_by_lem [] h = refl
  left_by_lem (c ∷ later) h = after later h.0 ∙ left_by_lem later h.1

  pub sent_by : (calls : List Single) (w : ℕ) → SentBy calls earlier f o w → last_sent (calls ++ earlier) f o ≡ some w
  sent_by [] w h = absurd h
  sent_by (c ∷ calls) w (inl e) = after calls e
  sent_by (c ∷ calls) w (inr h) = after calls h.0 ∙ sent_by calls w h.1

-- ---- an accepted call

-- one word for another, where a test says so
either : (t : Bool) (v word w : ℕ) (last : Option ℕ) → (last ≡ some w → word ≡ w) → sent_after (cond t (sends v) leaves) last ≡ some w → cond t v word ≡ w
either true v word w last h e = cc
either false v word w last h e = h e

-- a written word was not sent
unsent : (t : Bool) (v word w : ℕ) (last : Option ℕ) → (last ≡ some w → word ≡ w) → sent_after (cond t overwrites leaves) last ≡ some w → cond t v word ≡ w
unsent true v word w last h e = absurd (no_word e)
unsent false v word w last h e = h e

module _ (m : Cacheless) (calls : List Single) (told : Told m calls) where
  stored_told : (frame : Option ℕ) (offset v f o w : ℕ) → sent_after (cond (is_frame frame f && eqb offset o) overwrites leaves) (last_sent calls f o) ≡ some w
      → stored m.word frame offset v f o ≡ w
  stored_told none offset v f o w e = told.words_told f o w e
  stored_told (some g) offset v f o w e = unsent (eqb g f && eqb offset o) v (m.word f o) w (last_sent calls f o) (told.words_told f o w) e

  pub told_accepted : (call : Single) → Told (after_accepted m call) (call ∷ calls)
  unfolding after_accepted
  told_accepted (map space page frame rights) =
      record {
        words_told = told.words_told;
        frames_told = λ s p. ap (λ (x : Option ℕ). cond (eqb space s && eqb page p) (some frame) x) (told.frames_told s p);
      }
  told_accepted (unmap space page) =
      record {
        words_told = told.words_told;
        frames_told = λ s p. ap (λ (x : Option ℕ). cond (eqb space s && eqb page p) none x) (told.frames_told s p);
      }
  told_accepted (read space page offset) = record { words_told = told.words_told; frames_told = told.frames_told }
  told_accepted (write space page offset word) =
      record {
        words_told = λ f o w e.
            subst⁻¹ (λ (x : Option ℕ). stored m.word x offset word f o ≡ w) (told.frames_told space page)
            (stored_told (mapped_frame calls space page) offset word f o w e);
        frames_told = told.frames_told;
      }
  told_accepted (device_read frame buffer) = record { words_told = told.words_told; frames_told = told.frames_told }
  told_accepted (device_write frame buffer) =
      record {
        words_told = λ f o w e. either (eqb frame f && leb 0 o && ltb o (0 + length buffer)) _ (m.word f o) w (last_sent calls f o) (told.words_told f o w) e;
        frames_told = told.frames_told;
      }
  told_accepted (device_write_part frame first number buffer) =
      record {
        words_told = λ f o w e.
            either (eqb frame f && leb first o && ltb o (first + length buffer)) _ (m.word f o) w (last_sent calls f o) (told.words_told f o w) e;
        frames_told = told.frames_told;
      }
  told_accepted (evict line) = record { words_told = told.words_told; frames_told = told.frames_told }
  told_accepted (begin_read frame) = record { words_told = told.words_told; frames_told = told.frames_told }
  told_accepted (begin_write frame) = record { words_told = told.words_told; frames_told = told.frames_told }
  told_accepted (bring_word frame offset word) =
      record {
        words_told = λ f o w e. either (eqb frame f && eqb offset o) word (m.word f o) w (last_sent calls f o) (told.words_told f o w) e;
        frames_told = told.frames_told;
      }
  told_accepted (take_word frame offset) = record { words_told = told.words_told; frames_told = told.frames_told }
  told_accepted (end_transfer frame) = record { words_told = told.words_told; frames_told = told.frames_told }
  told_accepted (fetch space page offset) = record { words_told = told.words_told; frames_told = told.frames_told }

-- a single call, refused or not
told_single : (m : Cacheless) (calls : List Single) → Told m calls → (call : Single) (refused : Bool)
    → Told (after_single m call refused) (cond refused calls (call ∷ calls))
told_single m calls told call true = told
told_single m calls told call false = told_accepted m calls told call

-- ---- a call

module _ (m : Cacheless) (calls : List Single) (told : Told m calls) where
  told_items : (items : List Mapping) (refused : ℕ → Bool) (k : ℕ) → Told (items_taken m items refused k) (items_and items refused k calls)
  told_items items refused zero = told
  told_items items refused (suc k) =
      told_single (items_taken m items refused k) (items_and items refused k calls) (told_items items refused k) (map_of (item_at items k)) (refused k)

  told_list : (items : List Mapping) (refused : ℕ → Bool) (whole : Bool)
      → Told (cond whole m (items_taken m items refused (length items))) (cond whole calls (items_and items refused (length items) calls))
  told_list items refused true = told
  told_list items refused false = told_items items refused (length items)

  pub told_call : (call : Call) (a : Answer) → Told (fed m call a) (accepted_and call a calls)
  told_call (single call) a = told_single m calls told call (is_refused a)
  told_call (map_all items answers) a = told_list items (item_refused a) (is_refused a)
