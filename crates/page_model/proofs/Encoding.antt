-- Encoding and decoding are inverse, and a record keeps the rules of its mark exactly if that goes with its states.
use mathlib.Core.Path.{◌≡◌, refl, sym, ap, ap₂, ◌∙◌}
use mathlib.Core.Bool.{Bool, true, false, cond, not, ◌&&◌, ◌||◌, false≢true, true≢false, or-true}
use Prim.Native.Nat.{ℕ, zero, suc, ◌≤◌, ◌<◌}
use native.Mathlib.Omega.{arith}
use borrow.Author.Tests.{eq-eqb, ne_eqb, eqb-true}
use lib.Dec.{eqb}
use lib.Pow.{pow_pos}
use Rattle.bits.specs.Mask.{bit, digit, mask_of, count_of, any, first_of}
use Rattle.bits.proofs.Mask.{mask_of_lem, bit_mask_of, any_cong, any_none, any_false, any_of, any_at, first_cong, first_none, first_one, first_at, one_count_of, digit_lt, eqb_digit, bit_none}
use Rattle.bits.proofs.Tautology.{and_right}
use Rattle.page_model.specs.declared.FrameRecord.{FrameRecord}
use Rattle.page_model.specs.Masks.{masks_of}
use Rattle.page_model.specs.Record.{state_from, state_of, instruction_state_from, instruction_state_of, mark_fits, dirty_colour_of, encode, is_held, is_dirty, is_stale, is_fetched, is_outdated, freed}
use Rattle.page_model.specs.Busy.{writing}
use Rattle.page_model.specs.Instructions.{InstructionState, unfetched, fetched, outdated}
use Rattle.page_model.specs.Step.{cell_of, instruction_cell_of, record_after, operations}
use Rattle.page_model.specs.Table.{ColourState, empty, present, dirty, stale}
use Rattle.page_model.specs.Theorems.{EncodeDecode, OneDirty, MarkFits, DecodeEncode, KeptMark, FreedRecord, DirtyColour, DirtyColourAside}
use Rattle.page_model.proofs.Rules.{Keeps, keeps, kept, flag, flag_digit, dirty_only, dirty_at, no_dirty_colour, any_dirty, first_dirty}
use Rattle.page_model.proofs.Cells.{kept_state, each_state}
use Rattle.page_model.proofs.Instructions.{each_instruction, instructions_are, not_held, beside_held}
use Rattle.page_model.proofs.Moving.{masks_of_keep, masks_of_is}

-- the record whose every part is the one that states and a mark encode to
pub encode_is : (n mark : ℕ) (states : ℕ → ColourState) (instructions : ℕ → InstructionState) (r : FrameRecord)
    → r.masks ≡ masks_of n (λ k. is_held (states k)) (λ k. is_stale (states k))
    → r.dirty ≡ digit (any n (λ k. is_dirty (states k)))
    → r.busy ≡ mark
    → r.dirty_colour ≡ first_of n (λ k. is_dirty (states k))
    → r.instructions ≡ masks_of n (λ k. is_fetched (instructions k)) (λ k. is_outdated (instructions k))
    → r ≡ encode n mark states instructions
unfolding encode
encode_is n mark states instructions r m d b c f = λ i. record { masks = m i; dirty = d i; busy = b i; dirty_colour = c i; instructions = f i }

-- ---- a record that is decoded and encoded

pub encode_decode : EncodeDecode
encode_decode n r e =
    let kr = keeps n r e in
    let says = kept_state n r kr in
    let m = masks_of_is n _ _ r.masks kr.masks (says is_held (λ o s h d. h) refl) (says is_stale (λ o s h d. s) refl) in
    let dirties = says is_dirty (λ o s h d. d && h) refl in
    let d = flag_digit kr.flag_le ∙ ap digit (sym (any_dirty n r kr) ∙ any_cong n _ _ dirties) in
    let c = sym (first_dirty n r kr) ∙ first_cong n _ _ dirties in
    sym (encode_is n r.busy (state_of r) (instruction_state_of r) r m d refl c (instructions_are n r kr (instruction_state_of r) (λ k l. refl)))

-- what the mark tells of flag and held mask
fits_le : (mark flag held : ℕ) → mark_fits mark flag held ≡ true → mark ≤ 2
fits_le zero flag held e = omega arith
fits_le (suc zero) flag held e = omega arith
fits_le (suc (suc zero)) flag held e = omega arith
fits_le (suc (suc (suc mark))) flag held e = absurd (false≢true e)

pub kept_mark : KeptMark
kept_mark n r e =
    let kr = keeps n r e in
    let fits = kr.mark_fits_holds in
    record {
      is_mark = fits_le r.busy r.dirty r.masks.held fits;
      none_dirty = λ m k l.
          let z = eqb-true r.dirty 0 (ap (λ (x : ℕ). mark_fits x r.dirty r.masks.held) (sym m) ∙ fits) in
          sym (kept_state n r kr is_dirty (λ o s h d. d && h) refl k l) ∙ ap (λ (x : ℕ). eqb x 1 && bit r.masks.held k) z;
      none_held = λ m k l.
          let z = eqb-true r.masks.held 0 (ap (λ (x : ℕ). mark_fits x r.dirty r.masks.held) (sym m) ∙ fits) in
          sym (kept_state n r kr is_held (λ o s h d. h) refl k l) ∙ ap (λ (x : ℕ). bit x k) z ∙ bit_none k;
      none_fetched = λ m k l. not_held _ (λ e. true≢false (sym (eq-eqb r.busy writing m) ∙ (beside_held n r kr k l e).1));
      beside_fetched = λ j k lj lk e.
          sym (kept_state n r kr is_dirty (λ o s h d. d && h) refl k lk) ∙ ap (λ (b : Bool). b && bit r.masks.held k) (beside_held n r kr j lj e).0;
    }

or_more : (a b c : Bool) → (a || b && c) ≡ true → (a || b && true) ≡ true
or_more true b c e = refl
or_more false true c e = refl
or_more false false c e = e

pub freed_record : FreedRecord
unfolding state_of instruction_state_of dirty_colour_of
freed_record n r e =
    let kr = keeps n r e in (
      kept n (freed r)
          (record {
            masks = kr.masks;
            flag_le = kr.flag_le;
            one_held = kr.one_held;
            mark_fits_holds = refl;
            dirty_colour_is = kr.dirty_colour_is;
            instructions = kr.instructions;
            beside = or_more (eqb r.instructions.held 0) (not (flag r)) (not (eqb r.busy writing)) kr.beside;
          }),
      λ k. refl,
      λ k. refl,
      refl,
    )

dirty_true : (s : ColourState) → is_dirty s ≡ true → s ≡ dirty
dirty_true empty e = absurd (false≢true e)
dirty_true present e = absurd (false≢true e)
dirty_true dirty e = refl
dirty_true stale e = absurd (false≢true e)

pub dirty_colour : DirtyColour
dirty_colour n r e = (bound (flag r) refl, λ k l. (λ z. written k l z, λ z. dirties k l (flag r) refl z))
  where
    kr : Keeps n r
    kr = keeps n r e

    bound : (b : Bool) → flag r ≡ b → r.dirty_colour ≤ n
    bound true z = let l = (dirty_only n r kr z).0 in omega arith
    bound false z = let l = no_dirty_colour n r kr z in omega arith

    -- a colour is dirty if the flag is set and it is the one written
    says : (k : ℕ) → k < n → (flag r && eqb r.dirty_colour k) ≡ is_dirty (state_of r k)
    says k l = sym (dirty_at n r kr k) ∙ kept_state n r kr is_dirty (λ o s h d. d && h) refl k l

    written : (k : ℕ) → k < n → state_of r k ≡ dirty → r.dirty_colour ≡ k
    written k l z = eqb-true r.dirty_colour k (and_right (flag r) (eqb r.dirty_colour k) (says k l ∙ ap is_dirty z))

    dirties : (k : ℕ) → k < n → (b : Bool) → flag r ≡ b → r.dirty_colour ≡ k → state_of r k ≡ dirty
    dirties k l true f z = dirty_true (state_of r k) (sym (says k l) ∙ ap₂ ◌&&◌ f (eq-eqb r.dirty_colour k z))
    dirties k l false f z = let none = no_dirty_colour n r kr f in absurd (omega arith)

pub dirty_colour_aside : DirtyColourAside
unfolding state_of instruction_state_of record_after operations cell_of instruction_cell_of
dirty_colour_aside n c s r = (refl, λ k. refl, λ k. refl, refl, refl)

-- ---- states that are encoded and decoded

no_mask : {n : ℕ} {p : ℕ → Bool} → ((k : ℕ) → k < n → p k ≡ false) → eqb (mask_of n p) 0 ≡ true
no_mask {n} {p} none = eq-eqb _ 0 (sym (mask_of_lem n 0 p (pow_pos n) (λ k l. bit_none k ∙ sym (none k l))))

module _ (n : ℕ) (states : ℕ → ColourState) (instructions : ℕ → InstructionState) (one : OneDirty n states) where
  -- with a dirty colour, the held ones are that one
  held_only : (d : ℕ) → d < n → is_dirty (states d) ≡ true → (k : ℕ) → k < n → is_held (states k) ≡ eqb d k
  held_only d ld e k lk = go (is_held (states k)) refl
    where
      here : states d ≡ dirty
      here = dirty_true (states d) e

      go : (b : Bool) → is_held (states k) ≡ b → b ≡ eqb d k
      go true h = sym (eq-eqb d k (one d k ld lk here h))
      go false h = sym (ne_eqb d k (λ q. false≢true (sym h ∙ ap (λ (j : ℕ). is_held (states j)) (sym q) ∙ ap is_held here)))

  encode_keeps : (mark : ℕ) → MarkFits n mark states instructions → Keeps n (encode n mark states instructions)
  unfolding encode dirty_colour_of
  encode_keeps mark fits =
      record {
        masks = masks_of_keep n _ _ (λ k l. each_state (λ s. not (is_held s && is_stale s)) refl (states k));
        flag_le = omega (arith, digit_lt (any n (λ k. is_dirty (states k))));
        one_held = single (any n (λ k. is_dirty (states k))) refl;
        mark_fits_holds = marked mark fits;
        dirty_colour_is = first (any n (λ k. is_dirty (states k))) refl;
        instructions = masks_of_keep n _ _ (λ k l. each_instruction (λ s. not (is_fetched s && is_outdated s)) refl (instructions k));
        beside = alone (any n (λ k. is_fetched (instructions k))) refl;
      }
    where
      -- no colour is held for instructions, or none is dirty and no device writes
      alone : (b : Bool) → any n (λ k. is_fetched (instructions k)) ≡ b
          → (eqb (mask_of n (λ k. is_fetched (instructions k))) 0 || not (eqb (digit (any n (λ k. is_dirty (states k)))) 1) && not (eqb mark writing)) ≡ true
      alone true e =
          let j = any_at n (λ k. is_fetched (instructions k)) e in
          ap (λ (b : Bool). eqb (mask_of n (λ k. is_fetched (instructions k))) 0 || b)
          (ap₂ (λ (b c : Bool). not (eqb (digit b) 1) && not c) (any_none n _ (λ k l. fits.beside_fetched j.0 k j.1 l j.2))
          (ne_eqb mark writing (λ m. false≢true (sym (fits.none_fetched m j.0 j.1) ∙ j.2)))) ∙ or-true (eqb (mask_of n (λ k. is_fetched (instructions k))) 0)
      alone false e =
          ap (λ (b : Bool). b || not (eqb (digit (any n (λ k. is_dirty (states k)))) 1) && not (eqb mark writing)) (no_mask (any_false n (λ k. is_fetched (instructions k)) e))

      first : (b : Bool) → any n (λ k. is_dirty (states k)) ≡ b
          → first_of n (λ k. is_dirty (states k)) ≡ cond (eqb (digit b) 1) (first_of n (bit (mask_of n (λ k. is_held (states k))))) n
      first true e =
          let d = any_at n (λ k. is_dirty (states k)) e in
          first_at n (λ k. is_dirty (states k)) d.0 d.1 (λ k l z. sym (one d.0 k d.1 l (dirty_true (states d.0) d.2) (ap is_held (dirty_true (states k) z)))) d.2
          ∙ sym (first_one n d.0 true _ (λ z. d.1) (λ k l. bit_mask_of n _ k l ∙ held_only d.0 d.1 d.2 k l))
      first false e = first_none n _ (any_false n _ e)

      marked : (mark : ℕ) → MarkFits n mark states instructions → mark_fits mark (digit (any n (λ k. is_dirty (states k)))) (mask_of n (λ k. is_held (states k))) ≡ true
      marked zero f = refl
      marked (suc zero) f = ap (λ (b : Bool). eqb (digit b) 0) (any_none n _ (f.none_dirty refl))
      marked (suc (suc zero)) f = no_mask (f.none_held refl)
      marked (suc (suc (suc mark))) f = let l = f.is_mark in absurd (omega arith)

      single : (b : Bool) → any n (λ k. is_dirty (states k)) ≡ b → (not (eqb (digit b) 1) || eqb (count_of n (bit (mask_of n (λ k. is_held (states k))))) 1) ≡ true
      single true e =
          let d = any_at n _ e in
          eq-eqb _ 1 (one_count_of n d.0 _ d.1 (λ k l. bit_mask_of n _ k l ∙ held_only d.0 d.1 d.2 k l))
      single false e = refl

  -- a present colour is there only where none is dirty
  decoded : (k : ℕ) → k < n → state_from (is_stale (states k)) (is_held (states k)) (any n (λ j. is_dirty (states j))) ≡ states k
  decoded k l = go (states k) refl
    where
      go : (s : ColourState) → states k ≡ s → state_from (is_stale s) (is_held s) (any n (λ j. is_dirty (states j))) ≡ s
      go empty e = refl
      go present e = flagged (any n (λ j. is_dirty (states j))) refl
        where
          flagged : (b : Bool) → any n (λ j. is_dirty (states j)) ≡ b → state_from false true b ≡ present
          flagged true a =
              let d = any_at n _ a in
              absurd (false≢true (ap is_dirty (sym e) ∙ ap (λ (j : ℕ). is_dirty (states j)) (sym (one d.0 k d.1 l (dirty_true _ d.2) (ap is_held e))) ∙ d.2))
          flagged false a = refl
      go dirty e = ap (state_from false true) (any_of n (λ j. is_dirty (states j)) k l (ap is_dirty e))
      go stale e = refl

decoded_instruction : (s : InstructionState) → instruction_state_from (is_outdated s) (is_fetched s) ≡ s
decoded_instruction unfetched = refl
decoded_instruction fetched = refl
decoded_instruction outdated = refl

pub decode_encode : DecodeEncode
unfolding encode state_of instruction_state_of
decode_encode n mark states instructions one = (
  λ fits. kept n (encode n mark states instructions) (encode_keeps n states instructions one mark fits),
  λ k l.
      (λ i. state_from (bit_mask_of n (λ j. is_stale (states j)) k l i) (bit_mask_of n (λ j. is_held (states j)) k l i) (eqb_digit (any n (λ j. is_dirty (states j))) i))
      ∙ decoded n states instructions one k l,
  λ k l.
      (λ i. instruction_state_from (bit_mask_of n (λ j. is_outdated (instructions j)) k l i) (bit_mask_of n (λ j. is_fetched (instructions j)) k l i))
      ∙ decoded_instruction (instructions k),
)
