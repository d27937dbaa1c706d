-- DEMAND 2, of what comes in at a tile's border from other tiles (paper 01, "Joining"): exits step into other tiles, and what joining leaves in its incoming is
-- what the paper says, sentence by sentence.
-- Assumes nothing.
use mathlib.Core.Bool.{Bool, true, false, not, ◌&&◌}
use mathlib.Core.List.{List}
use mathlib.Core.Logic.{inl, inr}
use mathlib.Core.Path.{◌≡◌, refl, sym, ap, ap₂, ◌∙◌}
use Prim.Native.Nat.{ℕ, ◌+◌, ◌*◌, ◌≤◌, ◌<◌}
use native.Mathlib.Omega.{arith}
use lib.Dec.{eqb}
use borrow.Author.Tests.{eqb-true, ne_eqb}
use Rattle.flow.specs.Net.{on}
use Rattle.flow.proofs.Sum.{test, sum_ext}
use Rattle.promise.proofs.Apart.{other, unless_ok, unless_all_ok}
use Rattle.promise.proofs.Each.{unless_some_each}
use Rattle.mosaic.specs.Join.{leads_to, own, comes_in}
use Rattle.mosaic.proofs.Totals.{off_feeds, absent_feeds, comes_absent, totals_told}
use Rattle.mosaic_join.specs.Joining.{JoinPromise, JoinOutcome, Joined, Work, incoming_by}
use Rattle.mosaic_read.specs.Records.{heights, widths}
use Rattle.mosaic_read.specs.Said.{borders, feeds_by, record_of, said_count, said_way, said_code}
use Rattle.mosaic_read.proofs.AllRecords.{parts_records}
use Rattle.mosaic_read.proofs.Exits.{onto_another}
use Rattle.demands.specs.Said.{Done}
use Rattle.demands.specs.Sheets.{RecordsWellFormed, PermittedJoin}
use Rattle.demands.specs.Incoming.{is_exit, land_there, steps_onto_cell, same_tile, from_other_tiles, comes_with_way, IncomingAsTold}

module _ (I J : ℕ) (bytes : List ℕ) (well : RecordsWellFormed I J bytes) where
  -- EXITS OF OTHER TILES: an exit that steps onto a border cell stands in another tile than that cell
  pub exits_step_into_other_tiles : (g : ℕ) → g < borders I J bytes → is_exit I J bytes g ≡ true → steps_onto_cell I J bytes g < borders I J bytes
      → record_of bytes I J g ≡ record_of bytes I J (steps_onto_cell I J bytes g) → ⊥
  exits_step_into_other_tiles g l x lh same = onto_another bytes I J (parts_records bytes J (I * J) well) g l x lh (sym same)

  -- so the test for other tiles takes nothing away
  other_tile : (g h : ℕ) → g < borders I J bytes → h < borders I J bytes → land_there I J bytes h ≡ true
      → (is_exit I J bytes g && (eqb (steps_onto_cell I J bytes g) h && land_there I J bytes h)) ≡ (is_exit I J bytes g && (eqb (steps_onto_cell I J bytes g) h && not (same_tile I J bytes g h)))
  other_tile g h l lh a = elim (test (is_exit I J bytes g)) [
    | inr x ↦ rw x refl
    | inl x ↦ elim (test (eqb (steps_onto_cell I J bytes g) h)) [
      | inr k ↦ rw (x, k) refl
      | inl k ↦
          let e : steps_onto_cell I J bytes g ≡ h = eqb-true _ _ k in
          let d : record_of bytes I J g ≡ record_of bytes I J h → ⊥ = λ m. exits_step_into_other_tiles g l x (omega (arith, e)) (m ∙ sym (ap (record_of bytes I J) e)) in
          rw (x, k, a, ne_eqb _ _ d) refl
    ]
  ]

  from_others : (total : ℕ → ℕ) (h : ℕ) → h < borders I J bytes → land_there I J bytes h ≡ true → incoming_by I J bytes total h ≡ from_other_tiles I J bytes total h
  unfolding comes_in
  from_others total h lh a = sum_ext (λ g l. ap (λ (b : Bool). on b (total g)) (other_tile g h l lh a))

-- WHAT COMES IN, of a join that is done
module _ (I J : ℕ) (bytes incoming : List ℕ) (work : Work) (s : PermittedJoin I J bytes incoming work) (e : JoinOutcome) (kept : JoinPromise I J bytes incoming work e)
    (done : Done e.said) where
  joined : Joined I J bytes e
  joined =
      let P : JoinOutcome → Type 0 = λ e. Done e.said → Joined I J bytes e in
      unless_some_each P (λ v l. other refl) (λ n d z. d) (unless_ok (unless_ok (unless_all_ok (unless_ok kept s.shape) s.parts) s.end) s.lengths) done

  exit_total : (g : ℕ) → g < borders I J bytes → is_exit I J bytes g ≡ true → joined.totals g ≡ said_count bytes I J g + comes_with_way I J bytes e.incoming g
  unfolding own
  exit_total g l x =
      let told = (totals_told I J (heights bytes J) (widths bytes) (said_way bytes I J) (said_code bytes I J) (said_count bytes I J) joined.totals).0 joined.solve g l in
      let own_is : own I J (heights bytes J) (widths bytes) (said_count bytes I J) (said_way bytes I J) g ≡ said_count bytes I J g = rw x refl in
      told ∙ ap₂ (λ (a b : ℕ). a + b) own_is
      (sum_ext (λ h lh. ap (on (eqb (leads_to I J (heights bytes J) (widths bytes) (said_way bytes I J) h) g)) (sym (joined.comes h lh))))

  pub incoming_as_told : IncomingAsTold I J bytes e.incoming
  incoming_as_told = record {
    total = joined.totals;
    exits = exit_total;
    land = λ h lh a. joined.comes h lh ∙ from_others I J bytes s.parts joined.totals h lh a;
    absent = λ h lh a. joined.comes h lh ∙ comes_absent I J (heights bytes J) (widths bytes) (said_way bytes I J) (said_code bytes I J) joined.totals h a;
    one_each = joined.long;
  }

-- EXITS THAT STEP ONTO AN ABSENT CELL OR OFF THE MOSAIC FEED NOBODY
module _ (I J : ℕ) (bytes : List ℕ) (g : ℕ) where
  pub off_feeds_nobody : borders I J bytes ≤ steps_onto_cell I J bytes g → feeds_by I J bytes g ≡ borders I J bytes
  off_feeds_nobody = off_feeds I J (heights bytes J) (widths bytes) (said_way bytes I J) (said_code bytes I J) g

  pub absent_feeds_nobody : land_there I J bytes (steps_onto_cell I J bytes g) ≡ false → feeds_by I J bytes g ≡ borders I J bytes
  absent_feeds_nobody = absent_feeds I J (heights bytes J) (widths bytes) (said_way bytes I J) (said_code bytes I J) g
