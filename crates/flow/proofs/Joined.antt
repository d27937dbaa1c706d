-- The net of the border cells of tiles, from what the tiles' records say: it is the net of the exits of the whole. Assumes nothing.
use mathlib.Core.Path.{◌≡◌, sym, ap, ap₂, ◌∙◌}
use mathlib.Core.Bool.{Bool, true, false, cond, ◌&&◌, true≢false}
use mathlib.Core.Logic.{◌⊎◌, inl, inr, ◌↔◌}
use Prim.Native.Nat.{ℕ, ◌+◌, ◌≤◌, ◌<◌}
use native.Mathlib.Omega.{arith}
use lib.Dec.{eqb, ltb}
use borrow.Author.Tests.{eqb-true, eq-eqb, lt-ltb, le-ltb}
use Rattle.flow.specs.Net.{on, sum, given, Counts}
use Rattle.flow.proofs.Sum.{test, test_iff, on_ne, on_zero, sum_ext, sum_none}
use Rattle.flow.proofs.Walk.{below}
use Rattle.flow.proofs.Through.{gather}
use Rattle.flow.proofs.Cut.{incoming}
use Rattle.flow.proofs.Exits.{way, xto, xto_of, xto_says}
use Rattle.flow.proofs.Totals.{incoming_given}
use Rattle.flow.proofs.Part.{Places, Part}

-- the border cell that the border cell g feeds, where g is an exit: the way of the border cell that its arrow ends at
unfoldable pub feeds : ℕ → (ℕ → Bool) → (ℕ → ℕ) → (ℕ → ℕ) → ℕ → ℕ
feeds M exit step ways g = cond (ltb g M && (exit g && ltb (step g) M)) (ways (step g)) M

-- what the records of the tiles say of the M border cells, by their numbers: `step` is where an exit's arrow ends, `ways` is the way, where that is an exit;
-- a number not below M means none
pub record Records (M n : ℕ) (to : ℕ → ℕ) (cut : ℕ → Bool) (at step ways : ℕ → ℕ) : Type 0 where
  pub places : Places M n at
  -- each exit is a border cell
  pub exits : (e : ℕ) → e < n → cut e ≡ true → (g : ℕ) × (g < M) × (at g ≡ e)
  pub step_on : (g : ℕ) → g < M → cut (at g) ≡ true → step g < M → to (at g) ≡ at (step g)
  pub step_off : (g : ℕ) → g < M → cut (at g) ≡ true → M ≤ step g → n ≤ to (at g)
  pub way_exit : (g : ℕ) → g < M → ways g < M → (way n to cut (at g) ≡ at (ways g)) × (cut (at (ways g)) ≡ true)
  pub way_ends : (g : ℕ) → g < M → M ≤ ways g → cut (way n to cut (at g)) ≡ false

-- outside stays outside
pub feeds_out : (M : ℕ) (exit : ℕ → Bool) (step ways : ℕ → ℕ) (g : ℕ) → M ≤ g → M ≤ feeds M exit step ways g
unfolding feeds
feeds_out M exit step ways g l = rw (le-ltb g M l) (omega arith)

module _ (M : ℕ) (exit : ℕ → Bool) (step ways : ℕ → ℕ) where
  -- `ways`, and none of none
  past : ℕ → ℕ
  past b = cond (ltb b M) (ways b) M

  -- at a border cell
  past_in : (b : ℕ) → b < M → past b ≡ ways b
  unfolding past
  past_in b l = rw (lt-ltb b M l)

  -- at none
  past_out : (b : ℕ) → M ≤ b → past b ≡ M
  unfolding past
  past_out b l = rw (le-ltb b M l)

  -- what an exit feeds
  feeds_as : (r : ℕ) → r < M → exit r ≡ true → feeds M exit step ways r ≡ past (step r)
  unfolding feeds past
  feeds_as r l e = rw (lt-ltb r M l, e)

  -- what is no exit feeds none
  feeds_none : (r : ℕ) → exit r ≡ false → r < M → feeds M exit step ways r ≡ M
  unfolding feeds
  feeds_none r e l = rw (lt-ltb r M l, e)

  -- what g is given is what comes in at the border cells with the way g
  pub feeds_given : (T : ℕ → ℕ) (g : ℕ) → g < M → given M (feeds M exit step ways) T g ≡ sum M (λ b. on (eqb (ways b) g) (incoming M step exit T b))
  unfolding given
  feeds_given T g l = sym (
      sum_ext (λ b lb. ap₂ (λ (x y : ℕ). on (eqb x g) y) (sym (past_in b lb)) (incoming_given M step exit T b))
      ∙ gather M step past (λ r. on (exit r) (T r)) g (λ r h x. omega (arith, past_out (step r) h))
      ∙ sum_ext (λ r lr. elim (test (exit r)) [
        | inl e ↦ rw (feeds_as r lr e, e)
        | inr e ↦ rw e (on_zero (eqb (past (step r)) g) ∙ sym (on_ne (feeds M exit step ways r) g (T r) (λ x. omega (arith, feeds_none r e lr))))
      ]))

  -- joining as it is told: an exit's total is its own count and all that comes in at the border cells with that way
  pub join_equation : (own T : ℕ → ℕ) → Counts M (feeds M exit step ways) own T ↔ ((g : ℕ) → g < M → T g ≡ own g + sum M (λ b. on (eqb (ways b) g) (incoming M step exit T b)))
  join_equation own T = (λ h g l. omega (arith, h g l, feeds_given T g l), λ h g l. omega (arith, h g l, feeds_given T g l))

module _ (M n : ℕ) (to : ℕ → ℕ) (cut : ℕ → Bool) (at step ways : ℕ → ℕ) (out : (p : ℕ) → n ≤ p → n ≤ to p) (s : Records M n to cut at step ways) where
  -- what feeds an exit by the records feeds it in the whole
  feeds_on : (g : ℕ) → g < M → feeds M (λ g. cut (at g)) step ways g < M → xto n to cut (at g) ≡ at (feeds M (λ g. cut (at g)) step ways g)
  unfolding feeds
  feeds_on g l h =
      elim (test (cut (at g))) [
        | inl c ↦ elim (below (step g) M) [
          | inl b ↦
              let e : (ltb g M && (cut (at g) && ltb (step g) M)) ≡ true = rw (lt-ltb g M l, c, lt-ltb (step g) M b) in
              let r : ways (step g) < M = rw e at h in
              let (x, y) = s.way_exit (step g) b r in
              let z : way n to cut (to (at g)) ≡ at (ways (step g)) = ap (way n to cut) (s.step_on g l c b) ∙ x in
              rw e (xto_of n to cut (at g) c (ap cut z ∙ y) ∙ z)
          | inr b ↦ absurd (let r = rw (lt-ltb g M l, c, le-ltb (step g) M b) at h in omega arith)
        ]
        | inr c ↦ absurd (let r = rw (lt-ltb g M l, c) at h in omega arith)
      ]

  -- what feeds none by the records feeds none in the whole
  feeds_off : (g : ℕ) → g < M → M ≤ feeds M (λ g. cut (at g)) step ways g → n ≤ xto n to cut (at g)
  unfolding feeds
  feeds_off g l h =
      elim (below (xto n to cut (at g)) n) [
        | inl b ↦
            let (c, d, x, lt) = xto_says n to cut out (at g) b in
            elim (below (step g) M) [
              | inl b ↦
                  let e : (ltb g M && (cut (at g) && ltb (step g) M)) ≡ true = rw (lt-ltb g M l, c, lt-ltb (step g) M b) in
                  let r : M ≤ ways (step g) = rw e at h in
                  absurd (true≢false (sym d ∙ ap (λ (y : ℕ). cut (way n to cut y)) (s.step_on g l c b) ∙ s.way_ends (step g) b r))
              | inr b ↦ absurd (omega (arith, s.step_off g l c b))
            ]
        | inr b ↦ b
      ]

  -- the join's net is the exits' net
  pub join_part : Part M n (feeds M (λ g. cut (at g)) step ways) (xto n to cut) at
  join_part = record {
    places = s.places;
    arrow = feeds_on;
    ends = feeds_off;
    before = λ q x lq lx e. s.exits q lq (xto_says n to cut out q (omega (arith, s.places.into x lx))).0;
  }

  -- what comes in at the border cell h, by the records
  pub join_in : (J : ℕ → ℕ) (h : ℕ) → h < M
      → sum M (λ g. on (cut (at g) && eqb (to (at g)) (at h)) (J g)) ≡ sum M (λ g. on (cut (at g) && eqb (step g) h) (J g))
  join_in J h lh = sum_ext (λ g l. ap (λ b. on b (J g)) (one g l (test (cut (at g)))))
    where
      one : (g : ℕ) → g < M → (cut (at g) ≡ true) ⊎ (cut (at g) ≡ false) → (cut (at g) && eqb (to (at g)) (at h)) ≡ (cut (at g) && eqb (step g) h)
      one g l (inr c) = rw c
      one g l (inl c) = rw c (test_iff _ _ (
        λ t. let e = eqb-true (to (at g)) (at h) t in
            elim (below (step g) M) [
              | inl b ↦ eq-eqb (step g) h (s.places.once (step g) h b lh (sym (s.step_on g l c b) ∙ e))
              | inr b ↦ absurd (omega (arith, s.step_off g l c b, s.places.into h lh))
            ],
        λ t. let e = eqb-true (step g) h t in eq-eqb _ _ (s.step_on g l c (omega arith) ∙ ap at e),
      ))

  -- nothing comes in at a cell that is no border cell
  pub none_in : (J : ℕ → ℕ) (p : ℕ) → p < n → ((h : ℕ) → h < M → at h ≡ p → ⊥) → sum M (λ g. on (cut (at g) && eqb (to (at g)) p) (J g)) ≡ 0
  none_in J p lp no_border = sum_none (λ g l. elim (test (cut (at g))) [
    | inl c ↦ rw c (on_ne (to (at g)) p (J g) (λ e. elim (below (step g) M) [
      | inl b ↦ no_border (step g) b (sym (s.step_on g l c b) ∙ e)
      | inr b ↦ omega (arith, s.step_off g l c b)
    ]))
    | inr c ↦ rw c
  ])
