-- DEMAND 3: mending after one changed cell gives the counts of the changed grid counted afresh, touches nothing but that cell and what is downstream of it, and
-- is refused for a loop exactly when the change closes one, with everything as it was.
-- Assumes nothing.
use mathlib.Core.List.{List}
use mathlib.Core.Logic.{◌↔◌}
use mathlib.Core.Path.{◌≡◌, ap, ◌∙◌}
use Prim.Native.Nat.{ℕ, ◌*◌, ◌<◌}
use lib.ListN.{length}
use lib.Seq.{get_or-set_other}
use Rattle.flow.proofs.Alike.{alike_sym}
use Rattle.flow.proofs.Close.{loops_through}
use Rattle.promise.specs.Reply.{number_of}
use Rattle.sheet.specs.Sheet.{code_at, count_at, dest_of, Downstream, SheetOnLoop, SheetNoLoop}
use Rattle.sheet.proofs.Change.{changed_alike, changed_long}
use Rattle.sheet.proofs.Dest.{dest_beyond}
use Rattle.sheet.proofs.Passes.{counts_no_loop}
use Rattle.sheet.proofs.Unique.{counts_one}
use Rattle.count.specs.Count.{CountPromise, CountOutcome}
use Rattle.count.proofs.Demands as C
use Rattle.checking.specs.Check.{Right}
use Rattle.mend.specs.Mend.{MendPromise, MendOutcome, Mendable, changed}
use Rattle.mend.proofs.Demands as M
use Rattle.demands.specs.Said.{Done, RefusedForLoop}
use Rattle.demands.specs.Sheets.{ArrowsFormLoop}

module _ (rows cols : ℕ) (grid counts : List ℕ) (place code : ℕ) (e : MendOutcome) (kept : MendPromise rows cols grid counts place code e) where
  module _ (done : Done e.said) where
    right_after : Right rows cols e.grid e.counts
    right_after = M.mended_right rows cols grid counts place code e kept done

    -- THE GRID HOLDS THE NEW CODE at that cell
    pub code_stored : code_at e.grid place ≡ code
    code_stored = M.mended_code rows cols grid counts place code e kept done

    -- MENDING GIVES THE COUNTS OF THE CHANGED GRID COUNTED AFRESH: counting it, with any buffer of the stated length, is done and gives the same counts
    pub as_counted_afresh : (fresh : List ℕ) → length fresh ≡ rows * cols → (f : CountOutcome) → CountPromise rows cols e.grid fresh f → Done f.said × (e.counts ≡ f.counts)
    as_counted_afresh fresh long f counted =
        let r = right_after in
        let free = counts_no_loop rows cols e.grid r.lengths.grid_long e.counts r.equation in
        let d = C.done_if_free rows cols e.grid fresh r.shape (record { grid_long = r.lengths.grid_long; counts_long = long }) r.codes f counted free in
        (ap number_of d.said_is, counts_one rows cols e.grid e.counts f.counts r.lengths.grid_long r.lengths.counts_long d.long r.equation d.equation)

    -- NO CODE DIFFERS except at that cell
    pub no_other_code : (p : ℕ) → (p ≡ place → ⊥) → code_at e.grid p ≡ code_at grid p
    no_other_code p off = ap (λ (g : List ℕ). code_at g p) (M.mended_grid rows cols grid counts place code e kept done) ∙ get_or-set_other grid place p code 255 off

    -- NO COUNT DIFFERS except at that cell and downstream of it, before the change or after
    pub no_other_count : (p : ℕ) → p < rows * cols → (p ≡ place → ⊥) → (Downstream rows cols grid place p → ⊥) → (Downstream rows cols (changed grid place code) place p → ⊥)
        → count_at e.counts p ≡ count_at counts p
    no_other_count = M.mended_only rows cols grid counts place code e kept done

  -- where grid, counts, place and code are right
  module _ (m : Mendable rows cols grid counts place code) where
    -- there was no loop before
    pub no_loop_before : SheetNoLoop rows cols grid
    no_loop_before = counts_no_loop rows cols grid m.right.lengths.grid_long counts m.right.equation

    -- MENDING IS REFUSED FOR A LOOP exactly when the change closes one
    pub refused_exactly_when_a_loop_closes : RefusedForLoop e.said ↔ ArrowsFormLoop rows cols (changed grid place code)
    refused_exactly_when_a_loop_closes = M.mend_loop_iff rows cols grid counts place code e kept m

    -- and each loop goes through the changed cell
    pub loops_go_through : (p : ℕ) → SheetOnLoop rows cols (changed grid place code) p
        → Downstream rows cols (changed grid place code) place p × Downstream rows cols (changed grid place code) p place
    loops_go_through p on =
        let long = m.right.lengths.grid_long in
        let out = dest_beyond rows cols (changed grid place code) (changed_long rows cols grid place code m.inside long) in
        let alike = alike_sym (rows * cols) place (dest_of rows cols grid) (dest_of rows cols (changed grid place code)) (changed_alike rows cols grid place code) in
        let (a, b) = loops_through (rows * cols) place (dest_of rows cols (changed grid place code)) (dest_of rows cols grid) out m.inside alike no_loop_before p on in
        ((on.0, a), (m.inside, b))

  -- THEN GRID AND COUNTS ARE AS LENT, as after every refusal
  pub refused_all_as_lent : (Done e.said → ⊥) → (e.grid ≡ grid) × (e.counts ≡ counts)
  refused_all_as_lent = M.refused_as_lent rows cols grid counts place code e kept
