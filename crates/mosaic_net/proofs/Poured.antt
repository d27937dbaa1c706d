-- The border cells that exits pour onto, of any records: one law for each way through the code that finds them; what an exit feeds and what comes in at a
-- border cell, by them; and what comes in fits where the exits' own counts together do.
-- Assumes nothing.
use mathlib.Core.Path.{◌≡◌, refl, sym, ap, ◌∙◌}
use mathlib.Core.Bool.{true, false, not, ◌&&◌}
use mathlib.Core.Logic.{inl, inr}
use Prim.Native.Nat.{ℕ, ◌+◌, ◌≤◌, ◌<◌}
use native.Mathlib.Omega.{arith}
use lib.Dec.{eqb, ltb}
use borrow.Author.Tests.{eq-eqb, ne_eqb, lt-ltb, le-ltb}
use Rattle.flow.specs.Net.{on, sum, given, NoLoop}
use Rattle.flow.proofs.Bound.{balance, counts_bound}
use Rattle.flow.proofs.Sum.{test, same, on_eq, on_ne, on_true, sum_ext, sum_mono}
use Rattle.flow.proofs.Walk.{below}
use Rattle.mosaic.specs.Layout.{all_borders}
use Rattle.mosaic.specs.Join.{is_land, exit_at, onto, leads_to, feeds, own, Totals, comes_in}
use Rattle.mosaic.proofs.Fed.{feeds_none, feeds_off, feeds_way}
use Rattle.mosaic.proofs.Totals.{absent_leads, feeds_out}
use Rattle.mosaic_net.specs.Method.{lead_mark, pours_onto}

module _ (I J : ℕ) (hs ws way code : ℕ → ℕ) where
  abbrev M : ℕ
  M = all_borders I J hs ws

  -- ---- where a border cell leads

  pub mark_land : (h : ℕ) → is_land way code h ≡ true → lead_mark I J hs ws way code h ≡ leads_to I J hs ws way h
  unfolding lead_mark
  mark_land h a = rw a

  pub mark_absent : (h : ℕ) → is_land way code h ≡ false → lead_mark I J hs ws way code h ≡ M + 1
  unfolding lead_mark
  mark_absent h a = rw a

  -- ---- what an exit pours onto

  module _ (g : ℕ) where
    pub pours_none : exit_at I J hs ws way g ≡ false → pours_onto I J hs ws way code g ≡ M
    unfolding pours_onto
    pours_none e = rw e

    pub pours_off : exit_at I J hs ws way g ≡ true → M ≤ onto I J hs ws code g → pours_onto I J hs ws way code g ≡ M
    unfolding pours_onto
    pours_off e l = rw (e, le-ltb (onto I J hs ws code g) M l)

    pub pours_absent : exit_at I J hs ws way g ≡ true → onto I J hs ws code g < M → is_land way code (onto I J hs ws code g) ≡ false → pours_onto I J hs ws way code g ≡ M
    unfolding pours_onto
    pours_absent e l a = rw (e, lt-ltb (onto I J hs ws code g) M l, a)

    pub pours_land : exit_at I J hs ws way g ≡ true → onto I J hs ws code g < M → is_land way code (onto I J hs ws code g) ≡ true → pours_onto I J hs ws way code g ≡ onto I J hs ws code g
    unfolding pours_onto
    pours_land e l a = rw (e, lt-ltb (onto I J hs ws code g) M l, a)

    -- what it pours onto is land that it steps onto
    pub pours_says : pours_onto I J hs ws way code g < M
        → (exit_at I J hs ws way g ≡ true) × (is_land way code (onto I J hs ws code g) ≡ true) × (pours_onto I J hs ws way code g ≡ onto I J hs ws code g)
    pours_says l =
        elim (test (exit_at I J hs ws way g)) [
          | inl e ↦ elim (below (onto I J hs ws code g) M) [
            | inl b ↦ elim (test (is_land way code (onto I J hs ws code g))) [ inl a ↦ (e, a, pours_land e b a) | inr a ↦ absurd (omega (arith, pours_absent e b a)) ]
            | inr b ↦ absurd (omega (arith, pours_off e b))
          ]
          | inr e ↦ absurd (omega (arith, pours_none e))
        ]

    -- an exit that pours onto h feeds the exit that h leads to
    pub feeds_pours : (h : ℕ) → g < M → pours_onto I J hs ws way code g ≡ h → h < M → feeds I J hs ws way code g ≡ leads_to I J hs ws way h
    feeds_pours h lg e l =
        let (x, a, p) = pours_says (omega arith) in
        feeds_way I J hs ws way code g h lg x (sym p ∙ e) l

    -- and one that pours onto none feeds none
    pub feeds_dry : g < M → M ≤ pours_onto I J hs ws way code g → feeds I J hs ws way code g ≡ M
    feeds_dry lg l =
        elim (test (exit_at I J hs ws way g)) [
          | inl e ↦ elim (below (onto I J hs ws code g) M) [
            | inl b ↦ elim (test (is_land way code (onto I J hs ws code g))) [
              | inl a ↦ absurd (omega (arith, pours_land e b a))
              | inr a ↦ feeds_way I J hs ws way code g (onto I J hs ws code g) lg e refl b ∙ absent_leads I J hs ws way code (onto I J hs ws code g) a
            ]
            | inr b ↦ feeds_off I J hs ws way code g lg e b
          ]
          | inr e ↦ feeds_none I J hs ws way code g lg e
        ]

  -- beyond the border cells nothing is fed
  pub feeds_beyond : (g : ℕ) → M ≤ g → feeds I J hs ws way code g ≡ M
  unfolding feeds
  feeds_beyond g l = rw (le-ltb g M l)

  -- ---- what comes in

  same_pour : (g h : ℕ) → h < M → (exit_at I J hs ws way g && (eqb (onto I J hs ws code g) h && is_land way code h)) ≡ eqb (pours_onto I J hs ws way code g) h
  same_pour g h lh =
      elim (same (pours_onto I J hs ws way code g) h) [
        | inl e ↦
            let (x, a, p) = pours_says g (omega arith) in
            let o : onto I J hs ws code g ≡ h = sym p ∙ e in
            rw (x, eq-eqb (onto I J hs ws code g) h o, sym (ap (is_land way code) o) ∙ a, eq-eqb (pours_onto I J hs ws way code g) h e)
        | inr d ↦ rw (ne_eqb (pours_onto I J hs ws way code g) h d) (elim (test (exit_at I J hs ws way g)) [
          | inl x ↦ rw x (elim (same (onto I J hs ws code g) h) [
            | inl o ↦ rw (eq-eqb (onto I J hs ws code g) h o) (elim (test (is_land way code h)) [
              | inl a ↦ absurd (d (pours_land g x (omega arith) (ap (is_land way code) o ∙ a) ∙ o))
              | inr a ↦ a
            ])
            | inr o ↦ rw (ne_eqb (onto I J hs ws code g) h o)
          ])
          | inr x ↦ rw x
        ])
      ]

  -- the sum of totals of the exits that pour onto it
  pub comes_given : (T : ℕ → ℕ) (h : ℕ) → h < M → comes_in I J hs ws way code T h ≡ given M (pours_onto I J hs ws way code) T h
  unfolding comes_in given
  comes_given T h l = sum_ext (λ g lg. ap (λ b. on b (T g)) (same_pour g h l))

  module _ (T : ℕ → ℕ) (h : ℕ) (l : h < M) where
    -- no more than what the exit is fed that h leads to
    fed_more : given M (pours_onto I J hs ws way code) T h ≤ given M (feeds I J hs ws way code) T (leads_to I J hs ws way h)
    unfolding given
    fed_more = sum_mono (λ g lg. elim (same (pours_onto I J hs ws way code g) h) [
      | inl e ↦ omega (
        arith,
        on_eq (pours_onto I J hs ws way code g) h (T g) e,
        on_eq (feeds I J hs ws way code g) (leads_to I J hs ws way h) (T g) (feeds_pours g h lg e l),
      )
      | inr d ↦ omega (arith, on_ne (pours_onto I J hs ws way code g) h (T g) d)
    ])

    -- or, where it leads to none, than what leaves the net
    left_more : M ≤ leads_to I J hs ws way h → given M (pours_onto I J hs ws way code) T h ≤ sum M (λ g. on (not (ltb (feeds I J hs ws way code g) M)) (T g))
    unfolding given
    left_more b = sum_mono (λ g lg. elim (same (pours_onto I J hs ws way code g) h) [
      | inl e ↦ omega (
        arith,
        on_eq (pours_onto I J hs ws way code g) h (T g) e,
        on_true (T g) (ap not (le-ltb (feeds I J hs ws way code g) M (omega (arith, feeds_pours g h lg e l)))),
      )
      | inr d ↦ omega (arith, on_ne (pours_onto I J hs ws way code g) h (T g) d)
    ])

  -- is not more than all exits' own counts together
  pub comes_most : (count T : ℕ → ℕ) → NoLoop M (feeds I J hs ws way code) → Totals I J hs ws count way code T → (h : ℕ) → h < M
      → given M (pours_onto I J hs ws way code) T h ≤ sum M (own I J hs ws count way)
  comes_most count T free solve h l =
      elim (below (leads_to I J hs ws way h) M) [
        | inl b ↦ omega (
          arith,
          fed_more T h l,
          solve (leads_to I J hs ws way h) b,
          counts_bound M (feeds I J hs ws way code) (feeds_out I J hs ws way code) free (own I J hs ws count way) T solve (leads_to I J hs ws way h) b,
        )
        | inr b ↦ omega (arith, left_more T h l b, balance M (feeds I J hs ws way code) (own I J hs ws count way) T solve)
      ]
