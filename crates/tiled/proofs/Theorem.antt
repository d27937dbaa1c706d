-- THE TILED THEOREM (paper 01, "Demand 2 over tiles"), of loops: some step refuses for a loop exactly where the whole sheet has one. (Of counts: Whole.antt.)
-- Assumes nothing.
use mathlib.Core.List.{List}
use mathlib.Core.Logic.{◌⊎◌, inl, inr, ◌↔◌}
use mathlib.Core.Path.{◌≡◌, ap}
use Prim.Native.Nat.{ℕ, zero, suc, ◌*◌, ◌<◌, ◌≤◌}
use native.Mathlib.Omega.{arith}
use Rattle.flow.specs.Net.{NoLoop}
use Rattle.flow.proofs.Loop.{loop_or_free}
use Rattle.flow.proofs.Sum.{same}
use Rattle.mosaic.specs.Layout.{sheet_rows, sheet_cols, height_of, width_of}
use Rattle.mosaic.proofs.Tiled.{tile_free, join_free}
use Rattle.mosaic.proofs.Totals.{feeds_out}
use Rattle.mosaic_join.specs.Joining.{ExitLoop}
use Rattle.mosaic_read.specs.Records.{heights, widths}
use Rattle.mosaic_read.specs.Said.{borders, feeds_by, said_count, said_way, said_code}
use Rattle.promise.specs.Reply.{number_of}
use Rattle.sheet.specs.Sheet.{LoopFound, dest_of, SheetOnLoop, SheetNoLoop}
use Rattle.sheet.proofs.Dest.{dest_beyond}
use Rattle.tile_finish.proofs.Refused.{finish_loop}
use Rattle.tiled.specs.Run.{CutSheet, Writing, Joining, Finishing, AllWritten, records_of, SomeStepRefuses, SheetHasLoop}
use Rattle.tiled.proofs.Joins.{fits_told, cut_told, free_told, tells_told, sheet_same, cols_same, join_says}
use Rattle.tiled.proofs.Steps.{Wrote, record_says}
use Rattle.tiled.proofs.Told.{own}

module _ (I J : ℕ) (hs ws : ℕ → ℕ) (sheet : List ℕ) (tiles : ℕ → List ℕ) (s : CutSheet I J hs ws sheet tiles) (w : Writing I J hs ws sheet tiles) where
  abbrev R : ℕ
  R = sheet_rows I hs

  abbrev C : ℕ
  C = sheet_cols J ws

  -- ---- records

  -- of the first n records, one is refused for a loop, or all are written
  some_or_all : (n : ℕ) → n ≤ I * J → ((t : ℕ) × (t < I * J) × (number_of (w.written t).said ≡ 4)) ⊎ ((t : ℕ) → t < n → Wrote I J hs ws sheet tiles s w t)
  some_or_all zero l = inr (λ t lt. absurd (omega arith))
  some_or_all (suc n) l = elim (some_or_all n (omega arith)) [
    | inl x ↦ inl x
    | inr f ↦ elim (record_says I J hs ws sheet tiles s w n (omega arith)) [
      | inl x ↦ inl (n, omega arith, x.0)
      | inr u ↦ inr (λ t lt. elim (same t n) [ inl e ↦ rw e u | inr e ↦ f t (omega arith) ])
    ]
  ]

  wrote_zero : (t : ℕ) → Wrote I J hs ws sheet tiles s w t → number_of (w.written t).said ≡ 0
  wrote_zero t u = ap number_of u.said_is

  sheet_out : (p : ℕ) → R * C ≤ p → R * C ≤ dest_of R C sheet p
  sheet_out = dest_beyond R C sheet s.cut.sheet_long

  -- a loop in a tile is one of the sheet
  tile_loop : (t x : ℕ) → t < I * J → SheetOnLoop (height_of J hs t) (width_of J ws t) (tiles t) x → SheetHasLoop I J hs ws sheet tiles
  tile_loop t x l o = elim (loop_or_free (R * C) (dest_of R C sheet) sheet_out) [
    | inl free ↦ absurd (tile_free I J hs ws s.fits sheet tiles s.cut free t l x o.0 o.1)
    | inr f ↦ (f.0, f.1.here)
  ]

  -- ---- the join

  -- no loop of exits: no loop of the sheet
  module _ (all : (t : ℕ) → t < I * J → Wrote I J hs ws sheet tiles s w t) where
    abbrev bytes : List ℕ
    bytes = records_of I J hs ws sheet tiles w

    abbrev ks : ℕ → ℕ
    ks = heights bytes J

    abbrev vs : ℕ → ℕ
    vs = widths bytes

    none_free : ((v : LoopFound) → ExitLoop I J bytes v → ⊥) → SheetNoLoop R C sheet
    none_free none =
        let free : NoLoop (borders I J bytes) (feeds_by I J bytes) = elim (loop_or_free (borders I J bytes) (feeds_by I J bytes) (feeds_out I J ks vs (said_way bytes I J) (said_code bytes I J))) [
          | inl f ↦ f
          | inr f ↦ absurd (none (record { place = f.0; len = _ }) f.1)
        ] in
        let whole = (join_free I J ks vs (fits_told I J hs ws sheet tiles s w all) sheet tiles (cut_told I J hs ws sheet tiles s w all) (own I J hs ws sheet tiles s w all)
        (said_count bytes I J) (said_way bytes I J) (said_code bytes I J) (free_told I J hs ws sheet tiles s w all) (tells_told I J hs ws sheet tiles s w all)).1 free in
        rw (← sheet_same I J hs ws sheet tiles s w all, ← cols_same I J hs ws sheet tiles s w all) whole

  -- ---- SOME STEP REFUSES FOR A LOOP EXACTLY WHERE THE WHOLE SHEET HAS ONE

  module _ (j : AllWritten I J hs ws sheet tiles w → Joining I J hs ws sheet tiles w)
      (f : (all : AllWritten I J hs ws sheet tiles w) → number_of (j all).joined.said ≡ 0 → Finishing I J hs ws sheet tiles w (j all)) where
    all_wrote : AllWritten I J hs ws sheet tiles w → (t : ℕ) → t < I * J → Wrote I J hs ws sheet tiles s w t
    all_wrote all t l = elim (record_says I J hs ws sheet tiles s w t l) [ inl x ↦ absurd (omega (arith, all t l, x.0)) | inr u ↦ u ]

    says : SomeStepRefuses I J hs ws sheet tiles w j f → SheetHasLoop I J hs ws sheet tiles
    says (inl (t, l, four)) = elim (record_says I J hs ws sheet tiles s w t l) [
      | inl x ↦ tile_loop t x.1.0 l x.1.1
      | inr u ↦ absurd (omega (arith, wrote_zero t u))
    ]
    says (inr (inl (all, four))) = elim (join_says I J hs ws sheet tiles s w (all_wrote all) (j all)) [
      | inl x ↦ x.1
      | inr u ↦ absurd (omega (arith, ap number_of u.1.said_is))
    ]
    says (inr (inr (all, done, t, l, four))) =
        let g = f all done in
        let (v, first, is) = finish_loop (height_of J hs t) (width_of J ws t) (tiles t) (g.incoming t) (g.counts t) (g.work t) (g.finished t) (g.outcome t l) four in
        tile_loop t v.place l first.here

    heard : SheetHasLoop I J hs ws sheet tiles → SomeStepRefuses I J hs ws sheet tiles w j f
    heard (p, o) = elim (some_or_all (I * J) (omega arith)) [
      | inl x ↦ inl x
      | inr wrote ↦ (let all : AllWritten I J hs ws sheet tiles w = λ t l. wrote_zero t (wrote t l) in elim (join_says I J hs ws sheet tiles s w wrote (j all)) [
        | inl x ↦ inr (inl (all, x.0))
        | inr u ↦ absurd (none_free wrote u.0 p o.0 o.1)
      ])
    ]

    pub tiled_refuses : SomeStepRefuses I J hs ws sheet tiles w j f ↔ SheetHasLoop I J hs ws sheet tiles
    tiled_refuses = (says, heard)
