-- What an exit feeds, of any records: one law for each way through the code that computes it.
-- Assumes nothing.
use mathlib.Core.Path.{◌≡◌, ap}
use mathlib.Core.Bool.{true, false}
use Prim.Native.Nat.{ℕ, ◌+◌, ◌*◌, ◌≤◌, ◌<◌}
use native.Mathlib.Omega.{arith}
use lib.Dec.{eqb}
use borrow.Author.Tests.{eq-eqb, ne_eqb, lt-ltb, le-ltb}
use Rattle.mosaic.specs.Layout.{borders_in, borders_before, all_borders}
use Rattle.mosaic.specs.Join.{exit_at, onto, leads_to, feeds}
use Rattle.mosaic.proofs.Borders.{border_tile_lem, border_in, border_below}

module _ (I J : ℕ) (hs ws way code : ℕ → ℕ) where
  -- ---- border cell g

  -- what is no exit feeds none
  pub feeds_none : (g : ℕ) → g < all_borders I J hs ws → exit_at I J hs ws way g ≡ false → feeds I J hs ws way code g ≡ all_borders I J hs ws
  unfolding feeds
  feeds_none g l e = rw (lt-ltb g (all_borders I J hs ws) l, e)

  -- an exit that steps off the mosaic feeds none
  pub feeds_off : (g : ℕ) → g < all_borders I J hs ws → exit_at I J hs ws way g ≡ true → all_borders I J hs ws ≤ onto I J hs ws code g → feeds I J hs ws way code g ≡ all_borders I J hs ws
  unfolding feeds
  feeds_off g l e h = rw (lt-ltb g (all_borders I J hs ws) l, e, le-ltb (onto I J hs ws code g) (all_borders I J hs ws) h)

  -- and one that steps onto border cell h feeds its way
  pub feeds_way : (g h : ℕ) → g < all_borders I J hs ws → exit_at I J hs ws way g ≡ true → onto I J hs ws code g ≡ h → h < all_borders I J hs ws
      → feeds I J hs ws way code g ≡ leads_to I J hs ws way h
  unfolding feeds
  feeds_way g h l e o k = rw (lt-ltb g (all_borders I J hs ws) l, e, o, lt-ltb h (all_borders I J hs ws) k)

  -- ---- border cell b of tile t

  module _ (t b : ℕ) (lt : t < I * J) (lb : b < borders_in J hs ws t) where
    pub exit_at_lem : exit_at I J hs ws way (borders_before J hs ws t + b) ≡ eqb (way (borders_before J hs ws t + b)) b
    unfolding exit_at
    exit_at_lem = ap (eqb (way (borders_before J hs ws t + b))) (border_in I J hs ws t b lt lb)

    -- its way leads to none
    pub leads_none : way (borders_before J hs ws t + b) ≡ 65535 → leads_to I J hs ws way (borders_before J hs ws t + b) ≡ all_borders I J hs ws
    unfolding leads_to
    leads_none e = rw (eq-eqb _ 65535 e)

    -- or to a border cell of its tile
    pub leads_way : {e : ℕ} → way (borders_before J hs ws t + b) ≡ e → (e ≡ 65535 → ⊥) → leads_to I J hs ws way (borders_before J hs ws t + b) ≡ borders_before J hs ws t + e
    unfolding leads_to
    leads_way {e} w d = rw (w, ne_eqb e 65535 d, border_tile_lem I J hs ws t b lt lb)

    pub leads_below : {e : ℕ} → way (borders_before J hs ws t + b) ≡ e → (e ≡ 65535 → ⊥) → e < borders_in J hs ws t
        → leads_to I J hs ws way (borders_before J hs ws t + b) < all_borders I J hs ws
    leads_below {e} w d l = omega (arith, leads_way w d, border_below I J hs ws t e lt l)
