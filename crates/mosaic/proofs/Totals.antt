-- Totals as the paper tells them, of any records: an exit's total is its own count plus all that comes in at border cells with that way.
-- Assumes nothing.
use mathlib.Core.Path.{◌≡◌, refl, sym, ap, ◌∙◌}
use mathlib.Core.Bool.{Bool, true, false, cond, ◌&&◌, and-true, and-false, true≢false}
use mathlib.Core.Logic.{inl, inr, ◌↔◌}
use Prim.Native.Nat.{ℕ, ◌+◌, ◌≤◌, ◌<◌}
use native.Mathlib.Omega.{arith}
use lib.Dec.{eqb, ltb}
use borrow.Author.Tests.{le-ltb}
use Rattle.flow.specs.Net.{on, sum}
use Rattle.flow.proofs.Sum.{test, on_ne, sum_ext, sum_none}
use Rattle.flow.proofs.Cut.{incoming}
use Rattle.flow.proofs.Joined as F
use Rattle.mosaic.specs.Layout.{all_borders}
use Rattle.mosaic.specs.Join.{exit_at, is_land, onto, leads_to, feeds, own, Totals, comes_in}

cond_same : (b : Bool) (x : ℕ) → cond b x x ≡ x
cond_same true x = refl
cond_same false x = refl

module _ (I J : ℕ) (hs ws way code : ℕ → ℕ) where
  -- what is not fed stays so
  pub feeds_out : (g : ℕ) → all_borders I J hs ws ≤ g → all_borders I J hs ws ≤ feeds I J hs ws way code g
  unfolding feeds F.feeds
  feeds_out = F.feeds_out (all_borders I J hs ws) (exit_at I J hs ws way) (onto I J hs ws code) (leads_to I J hs ws way)

  -- an absent cell has no way
  pub absent_leads : (g : ℕ) → is_land way code g ≡ false → leads_to I J hs ws way g ≡ all_borders I J hs ws
  unfolding is_land leads_to
  absent_leads g e = elim (test (eqb (way g) 65535)) [ inl k ↦ rw k | inr k ↦ absurd (true≢false (sym (rw k) ∙ e)) ]

  -- an exit that steps off the mosaic, or onto an absent cell, feeds nobody
  pub off_feeds : (g : ℕ) → all_borders I J hs ws ≤ onto I J hs ws code g → feeds I J hs ws way code g ≡ all_borders I J hs ws
  unfolding feeds
  off_feeds g l = rw (le-ltb (onto I J hs ws code g) (all_borders I J hs ws) l, and-false (exit_at I J hs ws way g), and-false (ltb g (all_borders I J hs ws))) refl

  pub absent_feeds : (g : ℕ) → is_land way code (onto I J hs ws code g) ≡ false → feeds I J hs ws way code g ≡ all_borders I J hs ws
  unfolding feeds
  absent_feeds g e = rw (absent_leads (onto I J hs ws code g) e) (cond_same (ltb g (all_borders I J hs ws) && (exit_at I J hs ws way g && ltb (onto I J hs ws code g) (all_borders I J hs ws))) (all_borders I J hs ws))

  -- and nothing comes in there
  pub comes_absent : (T : ℕ → ℕ) (h : ℕ) → is_land way code h ≡ false → comes_in I J hs ws way code T h ≡ 0
  unfolding comes_in
  comes_absent T h e = sum_none (λ g l. rw (e, and-false (eqb (onto I J hs ws code g) h), and-false (exit_at I J hs ws way g)))

  comes_land : (T : ℕ → ℕ) (h : ℕ) → is_land way code h ≡ true → comes_in I J hs ws way code T h ≡ incoming (all_borders I J hs ws) (onto I J hs ws code) (exit_at I J hs ws way) T h
  unfolding comes_in incoming
  comes_land T h e = sum_ext (λ g l. rw (e, and-true (eqb (onto I J hs ws code g) h)))

  -- what comes in at a border cell with the way g
  with_way : (T : ℕ → ℕ) (g b : ℕ) → g < all_borders I J hs ws
      → on (eqb (leads_to I J hs ws way b) g) (incoming (all_borders I J hs ws) (onto I J hs ws code) (exit_at I J hs ws way) T b)
      ≡ on (eqb (leads_to I J hs ws way b) g) (comes_in I J hs ws way code T b)
  with_way T g b l =
      elim (test (is_land way code b)) [
        | inl a ↦ ap (on (eqb (leads_to I J hs ws way b) g)) (sym (comes_land T b a))
        | inr a ↦
            let d : leads_to I J hs ws way b ≡ g → ⊥ = λ e. omega (arith, absent_leads b a) in
            on_ne _ g _ d ∙ sym (on_ne _ g _ d)
      ]

  -- the equation of the net of the exits says the paper's sentence
  pub totals_told : (count T : ℕ → ℕ) → Totals I J hs ws count way code T
      ↔ ((g : ℕ) → g < all_borders I J hs ws
      → T g ≡ own I J hs ws count way g + sum (all_borders I J hs ws) (λ b. on (eqb (leads_to I J hs ws way b) g) (comes_in I J hs ws way code T b)))
  unfolding feeds F.feeds
  totals_told count T =
      let e = F.join_equation (all_borders I J hs ws) (exit_at I J hs ws way) (onto I J hs ws code) (leads_to I J hs ws way) (own I J hs ws count way) T in (
        λ h g l. omega (arith, e.0 h g l, sum_ext {n = all_borders I J hs ws} (λ b lb. with_way T g b l)),
        λ h. e.1 (λ g l. omega (arith, h g l, sum_ext {n = all_borders I J hs ws} (λ b lb. with_way T g b l))),
      )
