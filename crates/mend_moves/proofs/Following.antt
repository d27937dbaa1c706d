-- Following the water of a cell: one step more, and what is known where it comes back or leaves.
-- Assumes nothing.
use mathlib.Core.List.{List}
use mathlib.Core.Logic.{inl, inr}
use mathlib.Core.Path.{◌≡◌, refl, sym, ap, ◌∙◌}
use Prim.Native.Nat.{ℕ, suc, min, ◌+◌, ◌*◌, ◌<◌, ◌≤◌}
use native.Mathlib.Numerals.{add-one}
use native.Mathlib.Omega.{arith}
use borrow.Author.Count.{below_more}
use lib.ListN.{length, set}
use Rattle.flow.specs.Net.{steps}
use Rattle.flow.proofs.Close.{closes_first}
use Rattle.flow.proofs.Follow.{follow_ends, follow_out}
use Rattle.flow.proofs.Sum.{same}
use Rattle.flow.proofs.Walk.{below, steps_suc, inside_at}
use Rattle.std.specs.Prelude.{Option, Some, None}
use Rattle.sheet.specs.Grid.{LeadsTo}
use Rattle.sheet.specs.Sheet.{dest_of, unit, SheetNoLoop, FirstSheetLoop}
use Rattle.sheet.proofs.Change.{changed_long, sheet_without}
use Rattle.sheet.proofs.Dest.{dest_beyond}
use Rattle.mend_moves.specs.Moves.{OnWay, Lands, landing}

module _ (to : ℕ → ℕ) (start : ℕ) where
  pub way_begins : {p : ℕ} → p ≡ to start → OnWay to start start 0 p
  unfolding steps
  way_begins e = record {
    here = e;
    never = λ i l x. omega arith;
    met = (0, omega arith, refl);
    under = λ j l. let z : j ≡ 0 = omega arith in rw z (omega arith);
  }

  module _ (least further p : ℕ) (s : OnWay to start least further p) (h : p ≡ start → ⊥) where
    smallest : (i : ℕ) × (i < suc (further + 1)) × (steps to i start ≡ min least p)
    smallest = elim (below p least) [
      | inl l ↦ (suc further, omega arith, sym s.here ∙ omega arith)
      | inr l ↦ (s.met.0, omega (arith, s.met.1), s.met.2 ∙ omega arith)
    ]

    pub way_on : {q : ℕ} → q ≡ to p → OnWay to start (min least p) (further + 1) q
    way_on {q} d = record {
      here = d ∙ ap to s.here ∙ sym (steps_suc to (suc further) start) ∙ ap (λ (k : ℕ). steps to (suc k) start) (sym (add-one further));
      never = below_more _ _ s.never (λ e. h (s.here ∙ e));
      met = smallest;
      under = λ j l. elim (same j (suc further)) [
        | inl e ↦ rw e (omega (arith, s.here))
        | inr e ↦ omega (arith, s.under j (omega arith))
      ];
    }

module _ (rows cols : ℕ) (g : List ℕ) (start : ℕ) (long : length g ≡ rows * cols) (lt : start < rows * cols) (free : SheetNoLoop rows cols (set g start 255))
    (least further p : ℕ) (s : OnWay (dest_of rows cols g) start least further p) where
  abbrev out : (q : ℕ) → rows * cols ≤ q → rows * cols ≤ dest_of rows cols g q
  out = dest_beyond rows cols g long

  abbrev out' : (q : ℕ) → rows * cols ≤ q → rows * cols ≤ dest_of rows cols (set g start 255) q
  out' = dest_beyond rows cols (set g start 255) (changed_long rows cols g start 255 lt long)

  -- while the water is on the sheet, it has come by fewer cells than there are
  pub way_short : p < rows * cols → further < rows * cols
  way_short l =
      follow_ends (rows * cols) start (dest_of rows cols g) (unit g) (dest_of rows cols (set g start 255)) (unit (set g start 255)) out out' lt (sheet_without rows cols g start lt long) free further s.never
      (inside_at (rows * cols) (dest_of rows cols g) out start (let h : further ≤ suc further = omega arith in h) (omega (arith, s.here)))

  -- it is back: it has gone round the first loop
  pub way_back : p ≡ start → FirstSheetLoop rows cols g least (further + 1)
  way_back e =
      rw (add-one further) (closes_first (rows * cols) start (dest_of rows cols g) (unit g) (dest_of rows cols (set g start 255)) (unit (set g start 255)) out out' lt (sheet_without rows cols g start lt long) free further
      (sym s.here ∙ e) s.never least s.met.0 s.met.1 s.met.2 s.under)

  -- it has left: there is no loop
  pub way_out : rows * cols ≤ p → SheetNoLoop rows cols g
  way_out l =
      follow_out (rows * cols) start (dest_of rows cols g) (unit g) (dest_of rows cols (set g start 255)) (unit (set g start 255)) out out' lt (sheet_without rows cols g start lt long) free further s.never
      (omega (arith, s.here))

-- where water lands, told by what the grid answered
pub landed : (n d : ℕ) (r : Option ℕ) → LeadsTo n d r → (landing n r ≡ d) × Lands n r
landed n d (Some q) e = (e.0, e.1)
landed n d None e = (sym e, tt)
