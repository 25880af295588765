-- The cacheless memory's words with one of frame f replaced: those of f, and those of another frame.
use mathlib.Core.Path.{◌≡◌, refl, sym, ap, ◌∙◌, fun_ext}
use mathlib.Core.Bool.{Bool, cond, ◌&&◌}
use mathlib.Core.Logic.{◌≢◌}
use Prim.Native.Nat.{ℕ}
use native.Mathlib.Decide.{ℕ_discrete}
use lib.Dec.{eqb}
use borrow.Author.Tests.{eq-eqb, ne_eqb}
use Rattle.cache.specs.Current.{written}
use Rattle.consistency.specs.Cacheless.{replaced}

eqb_sym : (i j : ℕ) → eqb i j ≡ eqb j i
eqb_sym i j = go (ℕ_discrete i j)
  where
    go : Dec (i ≡ j) → eqb i j ≡ eqb j i
    go (yes e) = eq-eqb i j e ∙ sym (eq-eqb j i (sym e))
    go (no ne) = ne_eqb i j ne ∙ sym (ne_eqb j i (λ e. ne (sym e)))

module _ (word : ℕ → ℕ → ℕ) (f o v : ℕ) where
  pub own_words : written o v (word f) ≡ replaced word f o v f
  own_words = fun_ext (λ p. ap (λ (t : Bool). cond t v (word f p)) (eqb_sym p o ∙ ap (λ (t : Bool). t && eqb o p) (sym (eq-eqb f f refl))))

  pub other_words : (g : ℕ) → g ≢ f → word g ≡ replaced word f o v g
  other_words g ne = fun_ext (λ p. ap (λ (t : Bool). cond (t && eqb o p) v (word g p)) (sym (ne_eqb f g (λ e. ne (sym e)))))
