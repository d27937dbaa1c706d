-- What may come in at a border cell: the test of it is what the promise asks.
-- Assumes nothing.
use mathlib.Core.Bool.{true, true≢false}
use mathlib.Core.List.{List}
use mathlib.Core.Logic.{inl, inr}
use mathlib.Core.Path.{◌≡◌, sym, ap, ◌∙◌}
use Prim.Native.Nat.{ℕ, ◌<◌}
use lib.Dec.{leb}
use lib.ListN.{length, get_or}
use borrow.Author.Tests.{eqb-true, eq-eqb, leb-true, le-leb}
use Rattle.flow.proofs.Sum.{test}
use Rattle.sheet.specs.Compass.{is_arrow}
use Rattle.sheet.specs.Sheet.{land_at}
use Rattle.sheet.proofs.Dest.{land_read}
use Rattle.tile.specs.Border.{border_place}
use Rattle.tile_finish.specs.Finish.{IncomingOk}
use Rattle.tile_finish.specs.Method.{may_come_in}

module _ (rows cols : ℕ) (g incoming : List ℕ) (b : ℕ) {p : ℕ} (at : p ≡ border_place rows cols b) (inside : p < length g) where
  land_here : is_arrow (get_or g p 0) ≡ land_at g (border_place rows cols b)
  land_here = land_read g p inside ∙ ap (land_at g) at

  pub may_ok : may_come_in (get_or g p 0) (get_or incoming b 0) ≡ true → IncomingOk rows cols g incoming b
  unfolding may_come_in
  may_ok e = elim (test (leb (get_or incoming b 0) 4194304)) [
    | inl l ↦ record {
      most = leb-true _ _ l;
      absent_none = λ a. eqb-true _ 0 (sym (rw (l, land_here ∙ a)) ∙ e);
    }
    | inr l ↦ absurd (true≢false (sym e ∙ rw l))
  ]

  pub ok_may : IncomingOk rows cols g incoming b → may_come_in (get_or g p 0) (get_or incoming b 0) ≡ true
  unfolding may_come_in
  ok_may ok = elim (test (land_at g (border_place rows cols b))) [
    | inl t ↦ rw (le-leb (get_or incoming b 0) 4194304 ok.most, land_here ∙ t)
    | inr t ↦ rw (le-leb (get_or incoming b 0) 4194304 ok.most, land_here ∙ t, eq-eqb (get_or incoming b 0) 0 (ok.absent_none t))
  ]
