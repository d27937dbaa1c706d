-- What border cells feed, written from what they pour onto and where those lead.
-- Assumes nothing.
use mathlib.Core.List.{List}
use mathlib.Core.Logic.{inl, inr}
use mathlib.Core.Path.{◌≡◌, sym, ap, ◌∙◌}
use Prim.Native.Nat.{ℕ, ◌<◌, ◌≤◌}
use native.Mathlib.Omega.{arith}
use lib.ListN.{length}
use borrow.Author.Tests.{lt-ltb, le-ltb}
use Rattle.flow.proofs.Walk.{below}
use Rattle.sheet.specs.Sheet.{count_at}
use Rattle.mosaic.specs.Join.{is_land}
use Rattle.mosaic_read.specs.Records.{heights, widths}
use Rattle.mosaic_read.specs.Said.{borders, feeds_by, said_way, said_code}
use Rattle.mosaic_net.specs.Method.{Filled, leads_by, pours_by, feed_at}
use Rattle.mosaic_net.proofs.Poured.{mark_land, pours_says, feeds_pours, feeds_dry}

module _ (leads pours : List ℕ) (g : ℕ) where
  pub feed_none : length pours ≤ count_at pours g → length pours ≡ feed_at leads pours g
  unfolding feed_at
  feed_none l = rw (le-ltb (count_at pours g) (length pours) l)

  pub feed_lead : count_at pours g < length pours → count_at leads (count_at pours g) ≡ feed_at leads pours g
  unfolding feed_at
  feed_lead l = rw (lt-ltb (count_at pours g) (length pours) l)

module _ (I J : ℕ) (bytes leads pours : List ℕ) (s : Filled (borders I J bytes) (leads_by I J bytes) leads (borders I J bytes))
    (p : Filled (borders I J bytes) (pours_by I J bytes) pours (borders I J bytes)) where
  -- so it is what the mosaic's exits feed
  pub feed_is : (g : ℕ) → g < borders I J bytes → feed_at leads pours g ≡ feeds_by I J bytes g
  feed_is g l =
      elim (below (pours_by I J bytes g) (borders I J bytes)) [
        | inl b ↦
            let (x, a, e) = pours_says I J (heights bytes J) (widths bytes) (said_way bytes I J) (said_code bytes I J) g b in
            let land : is_land (said_way bytes I J) (said_code bytes I J) (pours_by I J bytes g) ≡ _ = ap (is_land (said_way bytes I J) (said_code bytes I J)) e ∙ a in
            sym (feed_lead leads pours g (omega (arith, p.holds g l, p.long)))
            ∙ ap (count_at leads) (p.holds g l)
            ∙ s.holds (pours_by I J bytes g) b
            ∙ mark_land I J (heights bytes J) (widths bytes) (said_way bytes I J) (said_code bytes I J) (pours_by I J bytes g) land
            ∙ sym (feeds_pours I J (heights bytes J) (widths bytes) (said_way bytes I J) (said_code bytes I J) g (pours_by I J bytes g) l (λ i. pours_by I J bytes g) b)
        | inr b ↦
            sym (feed_none leads pours g (omega (arith, p.holds g l, p.long)))
            ∙ p.long
            ∙ sym (feeds_dry I J (heights bytes J) (widths bytes) (said_way bytes I J) (said_code bytes I J) g l b)
      ]

  -- all of it
  pub feeds_written : (feeds : List ℕ) → Filled (length pours) (feed_at leads pours) feeds (length pours) → Filled (borders I J bytes) (feeds_by I J bytes) feeds (borders I J bytes)
  feeds_written feeds f = record {
    long = f.long ∙ p.long;
    holds = λ g l. f.holds g (omega (arith, p.long)) ∙ feed_is g l;
  }
