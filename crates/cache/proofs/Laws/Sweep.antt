-- The laws of an operation on every line of a colour: what the line's own turn does stays, and no other turn matters to it.
use mathlib.Core.Path.{◌≡◌, refl, sym, ap, subst⁻¹, ◌∙◌}
use mathlib.Core.Bool.{Bool, true, false}
use mathlib.Core.Logic.{◌≢◌, ◌⊎◌, inl, inr}
use Prim.Native.Nat.{ℕ, zero, suc, ◌+◌, ◌%◌, ◌≤◌, ◌<◌}
use native.Mathlib.Omega.{arith}
use native.Mathlib.Numerals.{add-one}
use native.Mathlib.Decide.{ℕ_discrete}
use Rattle.board.specs.declared.Board.{Board}
use Rattle.board.specs.Board.{Regular, cache_pages, lines, page_lines, colour_line, line_colour}
use Rattle.board.proofs.Geometry.{colour_line_lt, colour_line_colour, colour_line_index, colour_line_split, colour_line_inj}
use Rattle.cache.specs.Store.{Store, WellFormedStore, tag_at}
use Rattle.cache.specs.Tag.{names}
use Rattle.cache.specs.Cache.{sweep}

-- an operation that, on any line, gives it a tag if it names f and leaves it else, and touches no other line's tag
pub record Retags (b : Board) (f tag : ℕ) (op : ℕ → Store → Store) : Type 0 where
  pub kept : (n : ℕ) (s : Store) → n < lines b → WellFormedStore b s → WellFormedStore b (op n s)
  pub tag_same : (n : ℕ) (s : Store) → n < lines b → WellFormedStore b s → names (tag_at s n) f ≡ true → tag_at (op n s) n ≡ tag
  pub tag_left : (n : ℕ) (s : Store) → names (tag_at s n) f ≡ false → tag_at (op n s) n ≡ tag_at s n
  pub tag_other : (n : ℕ) (s : Store) → n < lines b → WellFormedStore b s → (m : ℕ) → m ≢ n → tag_at (op n s) m ≡ tag_at s m

-- a sight of the store that the turn of a line of colour c does not change, but for line n
abbrev pub Apart : Board → (ℕ → Store → Store) → ℕ → ℕ → (Store → ℕ) → Type 0
Apart b op c n look = (m : ℕ) (t : Store) → m < lines b → line_colour b m ≡ c → WellFormedStore b t → m ≢ n → look (op m t) ≡ look t

-- the store at line n's turn: what the other turns do not change is as it was, and as line n's turn leaves it, so it stays
pub record Turn (b : Board) (op : ℕ → Store → Store) (c : ℕ) (s : Store) (n : ℕ) : Type 0 where
  pub now : Store
  pub kept : WellFormedStore b now
  pub before : (look : Store → ℕ) → Apart b op c n look → look now ≡ look s
  pub after : (look : Store → ℕ) → Apart b op c n look → look (sweep b op c (page_lines b) s) ≡ look (op n now)

-- one more turn
pub sweep_more : (b : Board) (op : ℕ → Store → Store) (c i : ℕ) (s : Store) → sweep b op c (i + 1) s ≡ op (colour_line b c i) (sweep b op c i s)
unfolding sweep
sweep_more b op c i s = ap (λ (k : ℕ). sweep b op c k s) (add-one i)

module _ (b : Board) (reg : Regular b) (f : ℕ) {tag : ℕ} (op : ℕ → Store → Store) (does : Retags b f tag op) (c : ℕ) (hc : c < cache_pages b) (s : Store) (wf : WellFormedStore b s) where
  pub turn_kept : (i : ℕ) → i ≤ page_lines b → WellFormedStore b (sweep b op c i s)
  unfolding sweep
  turn_kept zero h = wf
  turn_kept (suc i) h = does.kept (colour_line b c i) (sweep b op c i s) (colour_line_lt b reg c i hc h) (turn_kept i (omega arith))

  pub sweep_kept : WellFormedStore b (sweep b op c (page_lines b) s)
  sweep_kept = turn_kept (page_lines b) (omega arith)

  -- the first i turns leave what none of them changes
  skip : {A : Type 0} (look : Store → A) (i : ℕ) → i ≤ page_lines b → ((k : ℕ) (t : Store) → k < i → WellFormedStore b t → look (op (colour_line b c k) t) ≡ look t) → look (sweep b op c i s) ≡ look s
  unfolding sweep
  skip look zero h keeps = refl
  skip look (suc i) h keeps =
      keeps i (sweep b op c i s) (omega arith) (turn_kept i (omega arith))
      ∙ skip look i (omega arith) (λ k t l w. keeps k t (omega arith) w)

  pub sweep_same : {A : Type 0} (look : Store → A) → ((m : ℕ) (t : Store) → m < lines b → line_colour b m ≡ c → WellFormedStore b t → look (op m t) ≡ look t) → look (sweep b op c (page_lines b) s) ≡ look s
  sweep_same look keeps = skip look (page_lines b) (omega arith) (λ k t l w. keeps (colour_line b c k) t (colour_line_lt b reg c k hc l) (colour_line_colour b reg c k l) w)

  -- the turns after turn j leave what none of them changes
  reach : (look : Store → ℕ) (j i : ℕ) → j < i → i ≤ page_lines b → ((k : ℕ) (t : Store) → k < i → k ≢ j → WellFormedStore b t → look (op (colour_line b c k) t) ≡ look t) → look (sweep b op c i s) ≡ look (op (colour_line b c j) (sweep b op c j s))
  unfolding sweep
  reach look j zero l h keeps = absurd (omega arith)
  reach look j (suc i) l h keeps = go (ℕ_discrete i j) (λ g. reach look j i g (omega arith) (λ k t m ne w. keeps k t (omega arith) ne w))
    where
      go : Dec (i ≡ j) → (j < i → look (sweep b op c i s) ≡ look (op (colour_line b c j) (sweep b op c j s))) → look (op (colour_line b c i) (sweep b op c i s)) ≡ look (op (colour_line b c j) (sweep b op c j s))
      go (yes e) ih = ap (λ (k : ℕ). look (op (colour_line b c k) (sweep b op c k s))) e
      go (no ne) ih = keeps i (sweep b op c i s) (omega arith) ne (turn_kept i (omega arith)) ∙ ih (omega arith)

  pub sweep_turn : (n : ℕ) → line_colour b n ≡ c → Turn b op c s n
  sweep_turn n e =
      let j : ℕ = n % page_lines b in
      let l : j < page_lines b = colour_line_index b reg n in
      let own : colour_line b c j ≡ n = rw e at (colour_line_split b reg n) in
      let others : (look : Store → ℕ) → Apart b op c n look → (k : ℕ) (t : Store) → k < page_lines b → k ≢ j → WellFormedStore b t → look (op (colour_line b c k) t) ≡ look t =
      λ look apart k t h ne w. apart (colour_line b c k) t (colour_line_lt b reg c k hc h) (colour_line_colour b reg c k h) w (λ q. ne (colour_line_inj b reg c k j (q ∙ sym own))) in
      record {
        now = sweep b op c j s;
        kept = turn_kept j (omega arith);
        before = λ look apart. skip look j (omega arith) (λ k t h w. others look apart k t (omega arith) (omega arith) w);
        after = λ look apart. rw own at (reach look j (page_lines b) l (omega arith) (others look apart));
      }

  -- ---- tags

  tag_apart : (n : ℕ) → Apart b op c n (λ t. tag_at t n)
  tag_apart n m t h e w ne = does.tag_other m t h w n (λ q. ne (sym q))

  pub sweep_tag_same : (n : ℕ) → n < lines b → line_colour b n ≡ c → names (tag_at s n) f ≡ true → tag_at (sweep b op c (page_lines b) s) n ≡ tag
  sweep_tag_same n h e named =
      let turn = sweep_turn n e in
      turn.after (λ t. tag_at t n) (tag_apart n)
      ∙ does.tag_same n turn.now h turn.kept (ap (λ (t : ℕ). names t f) (turn.before (λ t. tag_at t n) (tag_apart n)) ∙ named)

  own_tag_left : (n : ℕ) → line_colour b n ≡ c → names (tag_at s n) f ≡ false → tag_at (sweep b op c (page_lines b) s) n ≡ tag_at s n
  own_tag_left n e other =
      let turn = sweep_turn n e in
      let was = turn.before (λ t. tag_at t n) (tag_apart n) in
      turn.after (λ t. tag_at t n) (tag_apart n) ∙ does.tag_left n turn.now (ap (λ (t : ℕ). names t f) was ∙ other) ∙ was

  pub sweep_tag_other : (n : ℕ) → line_colour b n ≢ c → tag_at (sweep b op c (page_lines b) s) n ≡ tag_at s n
  sweep_tag_other n ne = sweep_same (λ t. tag_at t n) (λ m t h e w. does.tag_other m t h w n (λ q. ne (ap (line_colour b) q ∙ e)))

  pub sweep_tag_left : (n : ℕ) → names (tag_at s n) f ≡ false → tag_at (sweep b op c (page_lines b) s) n ≡ tag_at s n
  sweep_tag_left n other = go (ℕ_discrete (line_colour b n) c)
    where
      go : Dec (line_colour b n ≡ c) → tag_at (sweep b op c (page_lines b) s) n ≡ tag_at s n
      go (yes e) = own_tag_left n e other
      go (no ne) = sweep_tag_other n ne

  -- a tag is as it was, or the line named f and has the new one
  pub sweep_tag_either : (n : ℕ) → n < lines b → (tag_at (sweep b op c (page_lines b) s) n ≡ tag_at s n) ⊎ ((names (tag_at s n) f ≡ true) × (tag_at (sweep b op c (page_lines b) s) n ≡ tag))
  sweep_tag_either n h = go (ℕ_discrete (line_colour b n) c) (names (tag_at s n) f) refl
    where
      go : Dec (line_colour b n ≡ c) → (t : Bool) → names (tag_at s n) f ≡ t → (tag_at (sweep b op c (page_lines b) s) n ≡ tag_at s n) ⊎ ((names (tag_at s n) f ≡ true) × (tag_at (sweep b op c (page_lines b) s) n ≡ tag))
      go (no ne) t q = inl (sweep_tag_other n ne)
      go (yes e) false q = inl (sweep_tag_left n q)
      go (yes e) true q = inr (q, sweep_tag_same n h e q)

  -- what holds of the new tag, and of every tag that does not name f, holds of the tag of every line of the colour
  pub sweep_none : (P : ℕ → Type 0) → P tag → ((t : ℕ) → names t f ≡ false → P t) → (n : ℕ) → n < lines b → line_colour b n ≡ c → P (tag_at (sweep b op c (page_lines b) s) n)
  sweep_none P new other n h e = go (names (tag_at s n) f) refl
    where
      go : (t : Bool) → names (tag_at s n) f ≡ t → P (tag_at (sweep b op c (page_lines b) s) n)
      go true q = subst⁻¹ P (sweep_tag_same n h e q) new
      go false q = subst⁻¹ P (sweep_tag_left n q) (other (tag_at s n) q)

  -- what every turn keeps, the sweep keeps
  pub sweep_keeps : (P : Store → Type 0) → ((m : ℕ) (t : Store) → m < lines b → WellFormedStore b t → P t → P (op m t)) → P s → P (sweep b op c (page_lines b) s)
  unfolding sweep
  sweep_keeps P step p = go (page_lines b) (omega arith)
    where
      go : (i : ℕ) → i ≤ page_lines b → P (sweep b op c i s)
      go zero h = p
      go (suc i) h = step (colour_line b c i) (sweep b op c i s) (colour_line_lt b reg c i hc h) (turn_kept i (omega arith)) (go i (omega arith))
