-- The pigeonhole principle: more numbers than places, so two in one place. Assumes nothing.
use mathlib.Core.Path.{◌≡◌, sym, ap, ◌∙◌}
use mathlib.Core.Bool.{cond}
use mathlib.Core.Logic.{◌⊎◌, inl, inr}
use Prim.Native.Nat.{ℕ, zero, suc, ◌<◌}
use native.Mathlib.Omega.{arith}
use native.Mathlib.Nat.{eq-or-lt_of_le, le_of_suc-le-suc}
use lib.Dec.{eqb}
use borrow.Author.Tests.{eq-eqb, ne_eqb}
use Rattle.flow.proofs.Sum.{same}

-- two places below m at which f is the same
abbrev pub Twice : (ℕ → ℕ) → ℕ → Type 0
Twice f m = (i : ℕ) × (j : ℕ) × (i < j) × (j < m) × (f i ≡ f j)

-- some i below m at which f is v, or none
pub find : (f : ℕ → ℕ) (v m : ℕ) → ((i : ℕ) × (i < m) × (f i ≡ v)) ⊎ ((i : ℕ) → i < m → f i ≡ v → ⊥)
find f v zero = inr (λ i l e. omega arith)
find f v (suc m) = go (find f v m) (same (f m) v)
  where
    go : ((i : ℕ) × (i < m) × (f i ≡ v)) ⊎ ((i : ℕ) → i < m → f i ≡ v → ⊥) → (f m ≡ v) ⊎ (f m ≡ v → ⊥)
        → ((i : ℕ) × (i < suc m) × (f i ≡ v)) ⊎ ((i : ℕ) → i < suc m → f i ≡ v → ⊥)
    go (inl h) s = inl (h.0, omega arith, h.2)
    go (inr h) (inl e) = inl (m, omega arith, e)
    go (inr h) (inr e) = inr (λ i l q. elim (eq-or-lt_of_le (le_of_suc-le-suc l)) [ inl x ↦ e (ap f (sym x) ∙ q) | inr x ↦ h i x q ])

-- f with v put for m
move : ℕ → ℕ → ℕ → ℕ
move m v x = cond (eqb x m) v x

move_at : (m v x : ℕ) → x ≡ m → move m v x ≡ v
unfolding move
move_at m v x e = rw (eq-eqb x m e)

move_off : (m v x : ℕ) → (x ≡ m → ⊥) → move m v x ≡ x
unfolding move
move_off m v x e = rw (ne_eqb x m e)

move_below : (n v x : ℕ) → v < suc n → x < suc n → (x ≡ v → ⊥) → move n v x < n
move_below n v x lv lx d =
    elim (same x n) [
      | inl e ↦ let r : v ≡ n → ⊥ = λ q. d (e ∙ sym q) in omega (arith, move_at n v x e)
      | inr e ↦ omega (arith, move_off n v x e)
    ]

move_inj : (n v x y : ℕ) → (x ≡ v → ⊥) → (y ≡ v → ⊥) → move n v x ≡ move n v y → x ≡ y
move_inj n v x y dx dy m =
    elim (same x n) [
      | inl ex ↦ elim (same y n) [ inl ey ↦ ex ∙ sym ey | inr ey ↦ absurd (dy (sym (sym (move_at n v x ex) ∙ m ∙ move_off n v y ey))) ]
      | inr ex ↦ elim (same y n) [ inl ey ↦ absurd (dx (sym (move_off n v x ex) ∙ m ∙ move_at n v y ey)) | inr ey ↦ sym (move_off n v x ex) ∙ m ∙ move_off n v y ey ]
    ]

-- of suc n numbers below n two are the same
pub pigeon : (n : ℕ) (f : ℕ → ℕ) → ((i : ℕ) → i < suc n → f i < n) → Twice f (suc n)
pigeon zero f h = absurd (let l = h 0 (omega arith) in omega arith)
pigeon (suc n) f h = go (find f (f (suc n)) (suc n))
    (λ d. pigeon n (λ i. move n (f (suc n)) (f i)) (λ i l. move_below n (f (suc n)) (f i) (h (suc n) (omega arith)) (h i (omega arith)) (d i l)))
  where
    go : ((i : ℕ) × (i < suc n) × (f i ≡ f (suc n))) ⊎ ((i : ℕ) → i < suc n → f i ≡ f (suc n) → ⊥)
        → (((i : ℕ) → i < suc n → f i ≡ f (suc n) → ⊥) → Twice (λ i. move n (f (suc n)) (f i)) (suc n))
        → Twice f (suc (suc n))
    go (inl s) ih = (s.0, suc n, s.1, omega arith, s.2)
    go (inr d) ih =
        let (i, j, l, lj, e) = ih d in
        (i, j, l, omega arith, move_inj n (f (suc n)) (f i) (f j) (d i (omega arith)) (d j lj) e)
