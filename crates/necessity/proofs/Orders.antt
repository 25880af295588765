-- A step's orders with one left out: which that is, and which page of the caches the other is on.
use mathlib.Core.Path.{◌≡◌, refl, sym, ap, subst, ◌∙◌}
use mathlib.Core.Bool.{Bool, true, false, cond, true≢false, false≢true}
use mathlib.Core.List.Memᴰ
use mathlib.Core.List.{List, [], ◌∷◌, ◌++◌, map, append_assoc, Memᴰ}
use mathlib.Core.Logic.{◌⊎◌, inl, inr, ⊎_elim}
use Prim.Native.Nat.{ℕ, zero, suc, ◌+◌, ◌-◌, ◌*◌, ◌≤◌, ◌<◌}
use native.Mathlib.Omega.{arith}
use borrow.Author.Tests.{ltb-true, ltb-false, lt-ltb, le-ltb}
use lib.Dec.{ltb}
use lib.ListN.{length, length-append, length-map}
use Rattle.page_model.specs.declared.FrameRecord.{FrameRecord}
use Rattle.page_model.specs.declared.Op.{Op}
use Rattle.page_model.specs.declared.Op.TheVariants.{None, Flush, Purge, PurgeInstructions}
use Rattle.page_model.specs.Record.{keeps_rules}
use Rattle.page_model.specs.Step.{is_flush, is_purge, cell_of, instruction_cell_of, operations, first_two, OpBelow, stepped}
use Rattle.page_model.specs.Table.{Cell, Operation, none, flush, purge, Step}
use Rattle.page_model.proofs.Listed.{first_two_lem, purge_listed, instruction_purge_listed, listed_cases}
use Rattle.page_model.proofs.Operations.{places_with, instruction_places, few_flushes, few_all}
use Rattle.page_model.proofs.Rules.{keeps}
use Rattle.page_model.proofs.Theorems.{operations_below}
use Rattle.consistency.proofs.Lines.{Elsewhere, NoFlush}
use Rattle.consistency.proofs.Pages.{page_states}
use Rattle.necessity.specs.Without.{leave_out}
use Rattle.necessity.proofs.PageCells.{page_cell, data_cell, instruction_cell}

-- ---- lists of at most one flush and at most one other

-- the one left out, and the one that is left
record Lacks (ops : List Op) (j : ℕ) : Type 0 where
  left : Op
  rest : Op
  others : leave_out j (first_two ops) ≡ record { first = rest; second = None }
  left_listed : Memᴰ left ops
  rest_listed : (rest ≡ None) ⊎ Memᴰ rest ops
  -- a flush was left out, and each operation but a flush is left; or another was left out, and what is left is a flush or none
  cause : (((c : ℕ) × (left ≡ Flush c)) × NoFlush rest × ((q : Op) → NoFlush q → Memᴰ q ops → rest ≡ q)) ⊎ (NoFlush left × (((c : ℕ) × (rest ≡ Flush c)) ⊎ (rest ≡ None)))

only_rest : (c : ℕ) (rest : Op) (ops : List Op) → ((q : Op) → Memᴰ q ops → rest ≡ q) → (q : Op) → NoFlush q → Memᴰ q (Flush c ∷ ops) → rest ≡ q
only_rest c rest ops h q quiet m = ⊎_elim (λ e. absurd (subst NoFlush e quiet)) (h q) (Memᴰ.cases_cons m)

lacks : (fs : List ℕ) (qs : List Op) → length fs ≤ 1 → length qs ≤ 1 → ((q : Op) → Memᴰ q qs → NoFlush q) → (j : ℕ) → j < length (map Flush fs ++ qs) → Lacks (map Flush fs ++ qs) j
lacks [] [] lf lq quiet j l = absurd (omega arith)
lacks [] (q ∷ []) lf lq quiet zero l =
    record {
      left = q;
      rest = None;
      others = refl;
      left_listed = Memᴰ.head refl;
      rest_listed = inl refl;
      cause = inr (quiet q (Memᴰ.head refl), inr refl);
    }
lacks [] (q ∷ []) lf lq quiet (suc j) l = absurd (omega arith)
lacks (c ∷ []) [] lf lq quiet zero l =
    record {
      left = Flush c;
      rest = None;
      others = refl;
      left_listed = Memᴰ.head refl;
      rest_listed = inl refl;
      cause = inl ((c, refl), tt, only_rest c None [] (λ q m. absurd (Memᴰ.not-nil m)));
    }
lacks (c ∷ []) [] lf lq quiet (suc j) l = absurd (omega arith)
lacks (c ∷ []) (q ∷ []) lf lq quiet zero l =
    record {
      left = Flush c;
      rest = q;
      others = refl;
      left_listed = Memᴰ.head refl;
      rest_listed = inr (Memᴰ.tail (Memᴰ.head refl));
      cause = inl ((c, refl), quiet q (Memᴰ.head refl), only_rest c q (q ∷ []) (λ p m. sym (Memᴰ.eq_of_singleton m)));
    }
lacks (c ∷ []) (q ∷ []) lf lq quiet (suc zero) l =
    record {
      left = q;
      rest = Flush c;
      others = refl;
      left_listed = Memᴰ.tail (Memᴰ.head refl);
      rest_listed = inr (Memᴰ.head refl);
      cause = inr (quiet q (Memᴰ.head refl), inl (c, refl));
    }
lacks (c ∷ []) (q ∷ []) lf lq quiet (suc (suc j)) l = absurd (omega arith)
lacks (c ∷ (y ∷ l)) qs lf lq quiet j h = absurd (omega arith)
lacks [] (q ∷ (y ∷ l)) lf lq quiet j h = absurd (omega arith)
lacks (c ∷ []) (q ∷ (y ∷ l)) lf lq quiet j h = absurd (omega arith)

-- ---- the purge of a page

abbrev pub purge_of : ℕ → ℕ → Op
purge_of n x = cond (ltb x n) (Purge x) (PurgeInstructions (x - n))

purge_data : (n k : ℕ) → k < n → purge_of n k ≡ Purge k
purge_data n k h = ap (λ (t : Bool). cond t (Purge k) (PurgeInstructions (k - n))) (lt-ltb k n h)

purge_instruction : (n k : ℕ) → purge_of n (n + k) ≡ PurgeInstructions k
purge_instruction n k = ap (λ (t : Bool). cond t (Purge (n + k)) (PurgeInstructions (n + k - n))) (le-ltb (n + k) n (omega arith)) ∙ ap PurgeInstructions (omega arith)

purge_quiet : (n x : ℕ) → NoFlush (purge_of n x)
purge_quiet n x = go (ltb x n)
  where
    go : (t : Bool) → NoFlush (cond t (Purge x) (PurgeInstructions (x - n)))
    go true = tt
    go false = tt

-- ---- a step's operations

one_kind : (o : Operation) → is_flush o ≡ true → is_purge o ≡ true → ⊥
one_kind none a z = false≢true a
one_kind flush a z = false≢true z
one_kind purge a z = false≢true a

module _ (n : ℕ) (s : Step) (r : FrameRecord) (rules : keeps_rules n r ≡ true) where
  -- the operation of page k's cell
  abbrev operation_at : ℕ → Operation
  operation_at k = (page_cell n s k (page_states n r k)).operation

  data_operation : (k : ℕ) → k < n → operation_at k ≡ (cell_of s r k).operation
  data_operation k h = ap (λ (x : Cell). x.operation) (data_cell n s r k h)

  instruction_operation : (k : ℕ) → operation_at (n + k) ≡ (instruction_cell_of s r k).operation
  instruction_operation k = ap (λ (x : Cell). x.operation) (instruction_cell n s r k)

  -- none of them is on a page whose cell has no operation
  pub idle_elsewhere : (x : ℕ) → operation_at x ≡ none → Elsewhere n x (stepped n s r).ops.first × Elsewhere n x (stepped n s r).ops.second
  idle_elsewhere x e =
      first_two_lem (Elsewhere n x) tt (operations n s r)
      (λ o. listed_cases n s r (λ k l p q. subst (Elsewhere n x) q (λ z. busy is_flush k refl (ap is_flush (data_operation k l) ∙ p) z))
      (λ k l p q. subst (Elsewhere n x) q (λ z. busy is_purge k refl (ap is_purge (data_operation k l) ∙ p) z))
      (λ k l p q. subst (Elsewhere n x) q (λ z. busy is_purge (n + k) refl (ap is_purge (instruction_operation k) ∙ p) z)))
    where
      busy : (test : Operation → Bool) (k : ℕ) → test none ≡ false → test (operation_at k) ≡ true → k ≡ x → ⊥
      busy test k quiet p z = true≢false (sym p ∙ ap (λ (i : ℕ). test (operation_at i)) z ∙ ap test e ∙ quiet)

  -- where no colour's cell has a flush, none of them is one
  pub no_flush : ((k : ℕ) → k < n → is_flush (operation_at k) ≡ false) → NoFlush (stepped n s r).ops.first × NoFlush (stepped n s r).ops.second
  no_flush h =
      first_two_lem NoFlush tt (operations n s r)
      (λ o. listed_cases n s r (λ k l p q. absurd (true≢false (sym p ∙ ap is_flush (sym (data_operation k l)) ∙ h k l))) (λ k l p q. subst NoFlush q tt) (λ k l p q. subst NoFlush q tt))

  -- a listed operation that is no flush is a purge of a page whose cell has one
  listed_purge : (o : Op) → NoFlush o → Memᴰ o (operations n s r) → (x : ℕ) × (x < 2 * n) × (is_purge (operation_at x) ≡ true) × (o ≡ purge_of n x)
  listed_purge o quiet =
      listed_cases n s r (λ k l p e. absurd (subst NoFlush (sym e) quiet))
      (λ k l p e. (k, omega arith, ap is_purge (data_operation k l) ∙ p, sym e ∙ sym (purge_data n k l)))
      (λ k l p e. (n + k, omega arith, ap is_purge (instruction_operation k) ∙ p, sym e ∙ sym (purge_instruction n k)))

  listed_flush : (c : ℕ) → Memᴰ (Flush c) (operations n s r) → (c < n) × (is_flush (operation_at c) ≡ true)
  listed_flush c =
      listed_cases n s r (λ k l p e. let q : k ≡ c = cc in subst (λ (i : ℕ). (i < n) × (is_flush (operation_at i) ≡ true)) q (l, ap is_flush (data_operation k l) ∙ p))
      (λ k l p e. let z : ◌≡◌ {A = ℕ} 0 1 = cc in absurd (omega arith)) (λ k l p e. let z : ◌≡◌ {A = ℕ} 0 1 = cc in absurd (omega arith))

  -- and the purge of a page whose cell has one is listed
  purge_page_listed : (x : ℕ) → x < 2 * n → is_purge (operation_at x) ≡ true → Memᴰ (purge_of n x) (operations n s r)
  purge_page_listed x h e = go (ltb x n) refl
    where
      go : (t : Bool) → ltb x n ≡ t → Memᴰ (cond t (Purge x) (PurgeInstructions (x - n))) (operations n s r)
      go true q = let l = ltb-true x n q in purge_listed n s r x l (sym (ap is_purge (data_operation x l)) ∙ e)
      go false q =
          let past = ltb-false x n q in
          instruction_purge_listed n s r (x - n) (omega arith)
          (sym (ap is_purge (instruction_operation (x - n))) ∙ ap (λ (k : ℕ). is_purge (operation_at k)) (omega arith) ∙ e)

  -- the flush of a colour was left out, and what is left is no flush: it is the purge of whichever page the step purges
  pub record FlushOut (rest : Op) : Type 0 where
    pub colour : ℕ
    pub below : colour < n
    pub flushes : is_flush (operation_at colour) ≡ true
    pub quiet : NoFlush rest
    pub purges : (x : ℕ) → x < 2 * n → is_purge (operation_at x) ≡ true → rest ≡ purge_of n x

  -- or the purge of a page, and what is left is on another
  pub record PurgeOut (rest : Op) : Type 0 where
    pub page : ℕ
    pub purges : is_purge (operation_at page) ≡ true
    pub elsewhere : Elsewhere n page rest

  -- the operations are at most one flush and at most one other
  purges : List Op
  purges = map Purge (places_with n s r is_purge) ++ map PurgeInstructions (instruction_places n s r)

  at_place : (j : ℕ) → j < length (operations n s r) → Lacks (operations n s r) j
  unfolding operations purges
  at_place j =
      subst (λ (ops : List Op). j < length ops → Lacks ops j) (sym (append_assoc (map Flush (places_with n s r is_flush)) (map Purge (places_with n s r is_purge)) (map PurgeInstructions (instruction_places n s r))))
      (lacks (places_with n s r is_flush) purges (few_flushes n r (keeps n r rules) s) (simp (length-append, length-map) (few_all n r (keeps n r rules) s)) no_flush j)
    where
      no_flush : (q : Op) → Memᴰ q purges → NoFlush q
      no_flush q m =
          ⊎_elim (λ p. let c = Memᴰ.of_map Purge (places_with n s r is_purge) p in subst NoFlush c.2 tt)
          (λ p. let c = Memᴰ.of_map PurgeInstructions (instruction_places n s r) p in subst NoFlush c.2 tt)
          (Memᴰ.append_cases (map Purge (places_with n s r is_purge)) m)

  flush_out : (c : ℕ) (rest : Op) → Memᴰ (Flush c) (operations n s r) → NoFlush rest → ((q : Op) → NoFlush q → Memᴰ q (operations n s r) → rest ≡ q) → FlushOut rest
  flush_out c rest m quiet all =
      let here = listed_flush c m in
      record { colour = c; below = here.0; flushes = here.1; quiet = quiet; purges = λ x h e. all (purge_of n x) (purge_quiet n x) (purge_page_listed x h e) }

  purge_out : (left rest : Op) → NoFlush left → Memᴰ left (operations n s r) → (rest ≡ None) ⊎ Memᴰ rest (operations n s r)
      → ((c : ℕ) × (rest ≡ Flush c)) ⊎ (rest ≡ None) → PurgeOut rest
  purge_out left rest quiet m other is =
      let here = listed_purge left quiet m in record { page = here.0; purges = here.2; elsewhere = ⊎_elim (λ f. flushed here.0 here.2 f.0 f.1 other) (λ e. subst (Elsewhere n here.0) (sym e) tt) is }
    where
      flushed : (x : ℕ) → is_purge (operation_at x) ≡ true → (c : ℕ) → rest ≡ Flush c → (rest ≡ None) ⊎ Memᴰ rest (operations n s r) → Elsewhere n x rest
      flushed x p c e (inl z) = absurd (let q : ◌≡◌ {A = ℕ} 0 1 = cc in omega arith)
      flushed x p c e (inr i) =
          subst (Elsewhere n x) (sym e)
          (λ q. one_kind (operation_at x) (ap (λ (k : ℕ). is_flush (operation_at k)) (sym q) ∙ (listed_flush c (subst (λ (o : Op). Memᴰ o (operations n s r)) e i)).1) p)

  -- the order left out at place j, and the one that is left
  pub record LeftOut (j : ℕ) : Type 0 where
    pub rest : Op
    pub others : leave_out j (stepped n s r).ops ≡ record { first = rest; second = None }
    pub rest_below : OpBelow n rest
    pub cause : FlushOut rest ⊎ PurgeOut rest

  pub left_out : (j : ℕ) → j < length (operations n s r) → LeftOut j
  left_out j l =
      let x = at_place j l in
      record {
        rest = x.rest;
        others = x.others;
        rest_below = ⊎_elim (λ e. subst (OpBelow n) (sym e) tt) (λ m. (operations_below n s r).0 x.rest m) x.rest_listed;
        cause = ⊎_elim (λ y. inl (flush_out y.0.0 x.rest (subst (λ (o : Op). Memᴰ o (operations n s r)) y.0.1 x.left_listed) y.1 y.2))
            (λ y. inr (purge_out x.left x.rest y.0 x.left_listed x.rest_listed y.1)) x.cause;
      }
