-- DEMAND 2, of a whole sheet: each count is the number of land cells whose water passes through that cell, itself included, as the published recursion
-- defines it; and on a sheet of permitted size and codes, with buffers of the stated lengths, counting is refused for a loop exactly when arrows form one.
-- Assumes nothing.
use mathlib.Core.Bool.{true}
use mathlib.Core.List.{List, [], ◌∷◌}
use mathlib.Core.Logic.{◌⊎◌, ◌↔◌}
use mathlib.Core.Path.{◌≡◌, ap}
use Prim.Native.Nat.{ℕ, ◌*◌, ◌<◌}
use Rattle.flow.specs.Net.{on, sum, number}
use Rattle.promise.specs.Reply.{number_of}
use Rattle.promise.specs.Reply.Reply.{reply}
use Rattle.sheet.specs.Sheet.{land_at, outlet_at, count_at, passes, Downstream, SheetCounts, SheetNoLoop}
use Rattle.sheet.specs.Totals.{land_cells, outlets, greatest_count}
use Rattle.sheet.proofs.Passes.{passes_iff, counts_no_loop}
use Rattle.count.specs.Count.{CountPromise, CountOutcome}
use Rattle.count.proofs.Demands as C
use Rattle.demands.specs.Said.{Done, RefusedForLoop}
use Rattle.demands.specs.Sheets.{Permitted, ArrowsFormLoop}
use Rattle.demands.proofs.Remains.{counting_remains}

module _ (rows cols : ℕ) (grid counts : List ℕ) (s : Permitted rows cols grid counts) (e : CountOutcome) (kept : CountPromise rows cols grid counts e) where
  -- COUNTING IS REFUSED FOR A LOOP exactly when arrows form one
  pub refused_exactly_for_a_loop : RefusedForLoop e.said ↔ ArrowsFormLoop rows cols grid
  refused_exactly_for_a_loop = C.refused_iff_loop rows cols grid counts s.shape s.lengths s.codes e kept

  -- and otherwise it is done: no sheet of permitted size and codes is refused for anything else
  pub otherwise_done : SheetNoLoop rows cols grid → Done e.said
  otherwise_done free = ap number_of (C.done_if_free rows cols grid counts s.shape s.lengths s.codes e kept free).said_is

  module _ (done : Done e.said) where
    -- THE COUNTS ARE THOSE OF THE PUBLISHED RECURSION: at every place equation 1
    pub counts_as_published : SheetCounts rows cols grid e.counts
    counts_as_published = (counting_remains rows cols grid counts e kept).done done

    done_free : SheetNoLoop rows cols grid
    done_free = counts_no_loop rows cols grid s.lengths.grid_long e.counts counts_as_published

    -- EACH COUNT IS THE NUMBER OF LAND CELLS WHOSE WATER PASSES through that cell, itself included
    pub counts_what_passes : (p : ℕ) → p < rows * cols → count_at e.counts p ≡ number (rows * cols) (passes rows cols grid p)
    counts_what_passes = C.counts_say_passing rows cols grid counts s.shape s.lengths s.codes e kept done_free

    -- where q's water passes through p if q is land, and is p itself or has p downstream
    pub what_passes : (p q : ℕ) → p < rows * cols → (passes rows cols grid p q ≡ true) ↔ ((land_at grid q ≡ true) × ((q ≡ p) ⊎ Downstream rows cols grid q p))
    what_passes = passes_iff rows cols grid s.lengths.grid_long

    -- LAND, OUTLETS AND GREATEST COUNT are returned
    pub totals_returned : e.said ≡ reply 0 (land_cells rows cols grid ∷ outlets rows cols grid ∷ greatest_count rows cols e.counts ∷ [])
    totals_returned = (C.done_if_free rows cols grid counts s.shape s.lengths s.codes e kept done_free).said_is

    -- THE COUNTS AT THE OUTLETS sum to the number of land cells
    pub outlets_sum_to_land : sum (rows * cols) (λ p. on (outlet_at rows cols grid p) (count_at e.counts p)) ≡ land_cells rows cols grid
    outlets_sum_to_land = C.outlets_give_land rows cols grid counts s.shape s.lengths s.codes e kept done_free
