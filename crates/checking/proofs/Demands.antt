-- What checking promises, in the paper's words.
-- Assumes nothing.
use mathlib.Core.Bool.{false}
use mathlib.Core.List.{List, []}
use mathlib.Core.Logic.{◌↔◌}
use mathlib.Core.Path.{◌≡◌, refl, ap}
use Prim.Native.Nat.{ℕ, ◌*◌, ◌<◌}
use native.Mathlib.Omega.{arith}
use Rattle.flow.proofs.Sum.{on_false}
use Rattle.promise.specs.Links.Unless.{met}
use Rattle.promise.specs.Links.UnlessAll.{met_all}
use Rattle.promise.specs.Reply.{Reply, number_of}
use Rattle.promise.specs.Reply.Reply.{reply}
use Rattle.promise.proofs.Apart.{other}
use Rattle.promise.proofs.Each.{unless_each, unless_all_each}
use Rattle.sheet.specs.Sheet.{SheetNoLoop, land_at, count_at}
use Rattle.sheet.proofs.Given.{given_absent}
use Rattle.sheet.proofs.Passes.{counts_no_loop}
use Rattle.checking.specs.Check.{CheckPromise, CountOk, Right}
use Rattle.checking.proofs.One.{check_one}

-- an absent cell must hold 0
pub absent_must_be_0 : (rows cols : ℕ) (grid counts : List ℕ) (p : ℕ) → p < rows * cols → land_at grid p ≡ false → CountOk rows cols grid counts p ↔ (count_at counts p ≡ 0)
absent_must_be_0 rows cols grid counts p l t =
    (λ e. omega (arith, e, on_false 1 t, given_absent rows cols grid (count_at counts) p l t), λ e. omega (arith, e, on_false 1 t, given_absent rows cols grid (count_at counts) p l t))

module _ (rows cols : ℕ) (grid counts : List ℕ) (said : Reply) (promise : CheckPromise rows cols grid counts said) where
  done_right : said ≡ reply 0 [] → Right rows cols grid counts
  done_right =
      let P : Reply → Type 0 = λ r. r ≡ reply 0 [] → Right rows cols grid counts in
      unless_each P (λ n e. other refl (ap number_of e)) (λ a. unless_each P (λ n e. other refl (ap number_of e)) (λ b. unless_all_each P (λ p f e. other refl (ap number_of e)) (λ c.
      unless_all_each P (λ p f e. other refl (ap number_of e)) (λ d r e. record { shape = a; lengths = b; codes = c; equation = d })))) promise

  -- DONE IS SAID EXACTLY WHEN shape, lengths and codes are right and the counts satisfy equation 1
  pub check_done_iff : (said ≡ reply 0 []) ↔ Right rows cols grid counts
  check_done_iff = (
    done_right,
    λ s. check_one rows cols grid counts _ _ promise (met s.shape (met s.lengths (met_all s.codes (met_all s.equation refl)))),
  )

  -- A CHECKED SHEET HAS NO LOOP
  pub checked_no_loop : said ≡ reply 0 [] → SheetNoLoop rows cols grid
  checked_no_loop done = let s = done_right done in counts_no_loop rows cols grid s.lengths.grid_long counts s.equation
