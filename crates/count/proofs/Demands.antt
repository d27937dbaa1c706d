-- Demand 2 for whole sheets, in the demand's words, of every outcome that the promise of counting admits.
-- (That what is left at 0 after the scan is exactly the loop cells is `zero_left_iff_loop`, in crate scan.)
-- Assumes nothing.
use mathlib.Core.List.{List}
use mathlib.Core.Logic.{◌↔◌}
use mathlib.Core.Path.{◌≡◌, sym, ap, ◌∙◌}
use Prim.Native.Nat.{ℕ, ◌*◌, ◌<◌}
use native.Mathlib.Omega.{arith}
use Rattle.promise.specs.Links.UnlessSome.{refused_with, met_none}
use Rattle.promise.specs.Reply.{number_of}
use Rattle.promise.proofs.Apart.{unless_ok, unless_all_ok}
use Rattle.flow.specs.Net.{on, sum, number}
use Rattle.sheet.specs.Shape.{SheetShape}
use Rattle.sheet.specs.Sheet.{CodeOk, outlet_at, count_at, passes, SheetLengths, SheetOnLoop, SheetNoLoop}
use Rattle.sheet.specs.Totals.{land_cells}
use Rattle.sheet.proofs.Passes.{counts_no_loop, count_is_passing, outlets_sum}
use Rattle.count.specs.Count.{CountPromise, CountOutcome, Counted, Answered}

-- a sheet of permitted size and codes, with buffers of the stated lengths, and what counting it may end in
module _ (rows cols : ℕ) (grid counts : List ℕ) (shape : SheetShape rows cols) (lengths : SheetLengths rows cols grid counts)
    (codes : (p : ℕ) → p < rows * cols → CodeOk grid p) (e : CountOutcome) (kept : CountPromise rows cols grid counts e) where
  answered : Answered rows cols grid e
  answered = unless_all_ok (unless_ok (unless_ok kept shape) lengths) codes

  loop_case : Answered rows cols grid e → (number_of e.said ≡ 4) ↔ ((p : ℕ) × SheetOnLoop rows cols grid p)
  loop_case (refused_with v first is) = (λ n. (v.place, first.here), λ o. ap (λ (x : CountOutcome). number_of x.said) is)
  loop_case (met_none none done) = (
    λ n. absurd (let z : ◌≡◌ {A = ℕ} 0 4 = sym (ap number_of done.said_is) ∙ n in omega arith),
    λ o. absurd (counts_no_loop rows cols grid lengths.grid_long e.counts done.equation o.0 o.1.0 o.1.1),
  )

  -- COUNTING IS REFUSED FOR A LOOP exactly when arrows form one
  pub refused_iff_loop : (number_of e.said ≡ 4) ↔ ((p : ℕ) × SheetOnLoop rows cols grid p)
  refused_iff_loop = loop_case answered

  done_case : Answered rows cols grid e → SheetNoLoop rows cols grid → Counted rows cols grid e
  done_case (refused_with v first is) free = absurd (free v.place first.here.0 first.here.1)
  done_case (met_none none done) free = done

  -- WITHOUT A LOOP it is done
  pub done_if_free : SheetNoLoop rows cols grid → Counted rows cols grid e
  done_if_free = done_case answered

  module _ (free : SheetNoLoop rows cols grid) where
    -- EACH COUNT is the number of land cells whose water passes through that cell, itself included
    pub counts_say_passing : (p : ℕ) → p < rows * cols → count_at e.counts p ≡ number (rows * cols) (passes rows cols grid p)
    counts_say_passing = count_is_passing rows cols grid lengths.grid_long e.counts (done_if_free free).equation

    -- ON A SHEET WITHOUT LOOPS the counts at the outlets sum to the number of land cells
    pub outlets_give_land : sum (rows * cols) (λ p. on (outlet_at rows cols grid p) (count_at e.counts p)) ≡ land_cells rows cols grid
    outlets_give_land = outlets_sum rows cols grid lengths.grid_long e.counts (done_if_free free).equation
