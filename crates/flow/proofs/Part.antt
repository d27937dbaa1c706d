-- A net with numbers of its own that is a part of a bigger net: its counts, loops and last cells are the bigger net's. Assumes nothing.
use mathlib.Core.Path.{◌≡◌, refl, sym, ap, ◌∙◌}
use mathlib.Core.Logic.{inl, inr, ◌↔◌}
use Prim.Native.Nat.{ℕ, zero, suc, ◌≤◌, ◌<◌}
use native.Mathlib.Omega.{arith}
use lib.Dec.{eqb}
use borrow.Author.Tests.{eqb-true, eq-eqb}
use Rattle.flow.specs.Net.{on, sum, steps, given, Counts, Down, OnLoop, NoLoop}
use Rattle.flow.specs.Path.{End, last}
use Rattle.flow.proofs.Sum.{test_iff, on_ne, sum_ext, sum_none, sum_swap, sum_delta}
use Rattle.flow.proofs.Pigeon.{find}
use Rattle.flow.proofs.Walk.{below, stay_out, inside}
use Rattle.flow.proofs.Count.{counts_unique}
use Rattle.flow.proofs.Last.{last_end, last_is}

-- the m places of a part among the n of the whole, each once
pub record Places (m n : ℕ) (at : ℕ → ℕ) : Type 0 where
  pub into : (x : ℕ) → x < m → at x < n
  pub once : (x y : ℕ) → x < m → y < m → at x ≡ at y → x ≡ y

-- the small net (m, ton) is the part of the big net (n, big) at these places: arrows agree, and no arrow of the big net crosses the part's edge
pub record Part (m n : ℕ) (ton big at : ℕ → ℕ) : Type 0 where
  pub places : Places m n at
  pub arrow : (x : ℕ) → x < m → ton x < m → big (at x) ≡ at (ton x)
  pub ends : (x : ℕ) → x < m → m ≤ ton x → n ≤ big (at x)
  pub before : (q x : ℕ) → q < n → x < m → big q ≡ at x → (y : ℕ) × (y < m) × (at y ≡ q)

module _ (m n : ℕ) (at : ℕ → ℕ) (s : Places m n at) where
  -- a place is x's exactly where it is taken for x
  same_place : (q x y : ℕ) → x < m → y < m → at y ≡ q → eqb q (at x) ≡ eqb x y
  same_place q x y lx ly e = test_iff _ _ (
    λ t. eq-eqb x y (s.once x y lx ly (sym (e ∙ eqb-true q (at x) t))),
    λ t. eq-eqb q (at x) (sym e ∙ ap at (sym (eqb-true x y t))),
  )

  -- a sum over the whole of what is 0 off the part is the sum over the part
  pub sum_part : (g : ℕ → ℕ) → ((q : ℕ) → q < n → ((y : ℕ) → y < m → at y ≡ q → ⊥) → g q ≡ 0) → sum n g ≡ sum m (λ y. g (at y))
  sum_part g off = sym (
      sum_ext (λ y l. sym (sum_delta n (at y) g (s.into y l)))
      ∙ sum_swap m n (λ y q. on (eqb q (at y)) (g q))
      ∙ sum_ext (λ q lq. elim (find at q m) [
        | inl h ↦ sum_ext (λ x lx. ap (λ b. on b (g q)) (same_place q x h.0 lx h.1 h.2)) ∙ sum_delta m h.0 (λ x. g q) h.1
        | inr h ↦ sum_none (λ x lx. on_ne q (at x) (g q) (λ e. h x lx (sym e))) ∙ sym (off q lq h)
      ]))

module _ (m n : ℕ) (ton big at : ℕ → ℕ) (s : Part m n ton big at) where
  -- arrows between places are the part's own
  same_arrow : (x y : ℕ) → x < m → y < m → eqb (big (at y)) (at x) ≡ eqb (ton y) x
  same_arrow x y lx ly = test_iff _ _ (
    λ t. let e = eqb-true (big (at y)) (at x) t in
        elim (below (ton y) m) [
          | inl l ↦ eq-eqb (ton y) x (s.places.once (ton y) x l lx (sym (s.arrow y ly l) ∙ e))
          | inr l ↦ absurd (omega (arith, s.ends y ly l, s.places.into x lx))
        ],
    λ t. let e = eqb-true (ton y) x t in eq-eqb _ _ (s.arrow y ly (omega arith) ∙ ap at e),
  )

  -- what a cell of the part is given
  pub part_given : (c : ℕ → ℕ) (x : ℕ) → x < m → given n big c (at x) ≡ given m ton (λ y. c (at y)) x
  unfolding given
  part_given c x l =
      sum_part m n at s.places (λ q. on (eqb (big q) (at x)) (c q))
      (λ q lq h. on_ne (big q) (at x) (c q) (λ e. let (y, ly, ey) = s.before q x lq l e in h y ly ey))
      ∙ sum_ext (λ y ly. ap (λ b. on b (c (at y))) (same_arrow x y l ly))

  -- the big net's counts are counts of the part
  pub part_counts : (v w c : ℕ → ℕ) → ((x : ℕ) → x < m → v x ≡ w (at x)) → Counts n big w c → Counts m ton v (λ x. c (at x))
  part_counts v w c e h x l = omega (arith, h (at x) (s.places.into x l), e x l, part_given c x l)

  module _ (sout : (x : ℕ) → m ≤ x → m ≤ ton x) (out : (p : ℕ) → n ≤ p → n ≤ big p) where
    -- a walk inside the part
    pub part_steps : (k x : ℕ) → x < m → steps ton k x < m → steps big k (at x) ≡ at (steps ton k x)
    unfolding steps
    part_steps zero x l h = refl
    part_steps (suc k) x l h =
        let b : ton x < m = inside m ton sout k (ton x) h in
        ap (steps big k) (s.arrow x l b) ∙ part_steps k (ton x) b h

    -- a walk that leaves the part leaves the whole
    pub part_leaves : (k x : ℕ) → x < m → m ≤ steps ton k x → n ≤ steps big k (at x)
    unfolding steps
    part_leaves zero x l h = absurd (omega arith)
    part_leaves (suc k) x l h =
        elim (below (ton x) m) [
          | inl b ↦ rw (s.arrow x l b) (part_leaves k (ton x) b h)
          | inr b ↦ stay_out n big out k (big (at x)) (s.ends x l b)
        ]

    -- a walk from the part to the part stays in the part
    pub part_inside : (k x y : ℕ) → x < m → y < m → steps big k (at x) ≡ at y → steps ton k x ≡ y
    part_inside k x y lx ly e =
        elim (below (steps ton k x) m) [
          | inl b ↦ s.places.once (steps ton k x) y b ly (sym (part_steps k x lx b) ∙ e)
          | inr b ↦ absurd (omega (arith, part_leaves k x lx b, s.places.into y ly))
        ]

    -- so downstream is the same in both
    pub part_down : (x y : ℕ) → x < m → y < m → Down ton x y ↔ Down big (at x) (at y)
    part_down x y lx ly = (
      λ d. (d.0, part_steps (suc d.0) x lx (omega (arith, d.1)) ∙ ap at d.1),
      λ d. (d.0, part_inside (suc d.0) x y lx ly d.1),
    )

    -- and so are loops
    pub part_loop : (x : ℕ) → x < m → OnLoop m ton x ↔ OnLoop n big (at x)
    part_loop x l = (λ o. (s.places.into x l, (part_down x x l l).0 o.1), λ o. (l, (part_down x x l l).1 o.1))

    -- a part of a net without loops has none
    pub part_free : NoLoop n big → NoLoop m ton
    part_free free x l d = free (at x) (s.places.into x l) ((part_down x x l l).0 d)

    -- the end of a path is the same in both
    pub part_end : (x e : ℕ) → x < m → End m ton x e → End n big (at x) (at e)
    part_end x e l (i, t, le, h) = (i, part_steps i x l (omega arith) ∙ ap at t, s.places.into e le, s.ends e le h)

    module _ (sfree : NoLoop m ton) where
      -- and the last cell
      pub part_last : NoLoop n big → (x : ℕ) → x < m → last n big (at x) ≡ at (last m ton x)
      part_last free x l =
          last_is n big out free (at x) (at (last m ton x)) (s.places.into x l) (part_end x (last m ton x) l (last_end m ton sout sfree x l))

      -- the part's one solution is the big net's
      pub part_value : (v w d c : ℕ → ℕ) → ((x : ℕ) → x < m → v x ≡ w (at x)) → Counts m ton v d → Counts n big w c → (x : ℕ) → x < m → d x ≡ c (at x)
      part_value v w d c e hd hc x l = counts_unique m ton sout sfree v d (λ x. c (at x)) hd (part_counts v w c e hc) x l
