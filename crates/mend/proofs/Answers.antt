-- What is said, link by link of the promise.
-- Assumes nothing.
use mathlib.Core.List.{List, [], ◌∷◌}
use mathlib.Core.Path.{◌≡◌, refl, sym, ap, ◌∙◌}
use Prim.Native.Nat.{ℕ, ◌*◌, ◌<◌}
use lib.ListN.{length, get_or, set}
use lib.Seq.{set-set, set-get_or}
use Rattle.promise.specs.Links.Unless.{refused, met}
use Rattle.promise.specs.Links.UnlessAll.{refused_at, met_all}
use Rattle.promise.specs.Links.UnlessSome.{refused_with, met_none}
use Rattle.promise.specs.Reply.{Reply, number_of}
use Rattle.promise.specs.Reply.Reply.{reply}
use Rattle.flow.proofs.Loop.{first_loop_free}
use Rattle.sheet.specs.Leaves.{Laid}
use Rattle.sheet.specs.Sheet.{SheetCounts, SheetNoLoop, FirstSheetLoop}
use Rattle.sheet.proofs.Change.{changed_long}
use Rattle.sheet.proofs.Passes.{counts_no_loop}
use Rattle.checking.specs.Check.{CheckPromise, Right}
use Rattle.checking.proofs.Demands.{check_done_iff}
use Rattle.mend.specs.Mend.{MendPromise, MendCell, MendChange, MendOutcome, ends}
use Rattle.sheet.specs.Sheet.{CountsOf}

module _ (rows cols : ℕ) (g c : List ℕ) (t x : ℕ) where
  -- what checking refuses, mending refuses with the same reply, and nothing is changed
  pub refuses_too : {said : Reply} → CheckPromise rows cols g c said → (number_of said ≡ 0 → ⊥) → MendPromise rows cols g c t x (ends said g c)
  refuses_too (refused n e) h = refused n (ap (λ (r : Reply). ends r g c) e)
  refuses_too (met a (refused n e)) h = met a (refused n (ap (λ (r : Reply). ends r g c) e))
  refuses_too (met a (met b (refused_at p f e))) h = met a (met b (refused_at p f (ap (λ (r : Reply). ends r g c) e)))
  refuses_too (met a (met b (met_all k (refused_at p f e)))) h = met a (met b (met_all k (refused_at p f (ap (λ (r : Reply). ends r g c) e))))
  refuses_too (met a (met b (met_all k (met_all l e)))) h = absurd (h (ap number_of e))

  module _ (promise : CheckPromise rows cols g c (reply 0 [])) where
    checked : Right rows cols g c
    checked = (check_done_iff rows cols g c (reply 0 []) promise).0 refl

    -- what it passes is right, and mending goes on
    pub goes_on : {e : MendOutcome} → MendCell rows cols g c t x e → MendPromise rows cols g c t x e
    goes_on rest = met checked.shape (met checked.lengths (met_all checked.codes (met_all checked.equation rest)))

    pub checked_laid : Laid rows cols g c
    checked_laid = record {
      rows_fit = checked.shape.rows_most;
      cols_fit = checked.shape.cols_most;
      grid_long = checked.lengths.grid_long;
      counts_long = checked.lengths.counts_long;
    }

    pub checked_counts : SheetCounts rows cols g c
    checked_counts = checked.equation

  -- the code is already there: nothing is to be done
  pub answers_same : Laid rows cols g c → SheetCounts rows cols g c → get_or g t 0 ≡ x → MendChange rows cols g c t x (ends (reply 0 []) g c)
  answers_same laid eq there =
      let stays : set g t x ≡ g = ap (λ (y : ℕ). set g t y) (sym there) ∙ set-get_or g t 0 in
      met_none (λ v first. first_loop_free (counts_no_loop rows cols g laid.grid_long c eq) (rw stays at first)) record {
        stored = sym stays;
        long = laid.counts_long;
        equation = rw stays eq;
        said_is = refl;
      }

  -- the new code would close a loop
  pub answers_loop : {h : List ℕ} {p len : ℕ} → FirstSheetLoop rows cols (set g t x) p len → h ≡ g → MendChange rows cols g c t x (ends (reply 4 (p ∷ len ∷ [])) h c)
  answers_loop {h} {p} {len} s e = refused_with (record { place = p; len = len }) s (ap (λ (y : List ℕ). ends (reply 4 (p ∷ len ∷ [])) y c) e)

  -- it closes none: the look ahead left the grid h as it was, taking out left h' and d, putting in h'' and d'
  module _ {h h' : List ℕ} (free : SheetNoLoop rows cols (set g t x)) (e : h ≡ g) (e' : h' ≡ set h t 255) where
    out : h' ≡ set g t 255
    out = e' ∙ ap (λ (y : List ℕ). set y t 255) e

    then_in : set h' t x ≡ set g t x
    then_in = ap (λ (y : List ℕ). set y t x) out ∙ set-set g t 255 x

    pub put_ready : {d : List ℕ} → t < rows * cols → Laid rows cols g c → CountsOf rows cols (set h t 255) d
        → Laid rows cols h' d × ((t < rows * cols) × (SheetCounts rows cols (set h' t 255) d × SheetNoLoop rows cols (set h' t x)))
    put_ready lt laid s = (
      record {
        rows_fit = laid.rows_fit;
        cols_fit = laid.cols_fit;
        grid_long = ap length out ∙ changed_long rows cols g t 255 lt laid.grid_long;
        counts_long = s.long;
      },
      (lt, (rw (out, set-set g t 255 255, ← e) s.equation, rw then_in free)),
    )

    pub answers_mended : {h'' d' : List ℕ} → h'' ≡ set h' t x → CountsOf rows cols (set h' t x) d' → MendChange rows cols g c t x (ends (reply 0 []) h'' d')
    answers_mended e'' s = met_none (λ v first. first_loop_free free first) record {
      stored = e'' ∙ then_in;
      long = s.long;
      equation = rw then_in at s.equation;
      said_is = refl;
    }
