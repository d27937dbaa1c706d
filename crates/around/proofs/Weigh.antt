-- Counts weighed so that one sum of eight tells whether a giver has no count yet and, where none lacks it, the sum of their counts.
-- Assumes nothing.
use mathlib.Core.Path.{◌≡◌, refl, sym, ap, ◌∙◌}
use mathlib.Core.Bool.{Bool, true, false, true≢false}
use mathlib.Core.List.{List}
use mathlib.Core.Logic.{inl, inr}
use Prim.Native.Nat.{ℕ, ◌+◌, ◌*◌, ◌%◌, ◌<◌, ◌≤◌}
use native.Mathlib.Omega.{arith}
use lib.Dec.{eqb}
use lib.ListN.{length}
use borrow.Author.Tests.{eqb-true, eq-eqb, ne_eqb}
use Rattle.flow.specs.Net.{on, sum, given}
use Rattle.flow.proofs.Sum.{same, on_true, on_eq, on_ne, sum_ext, sum_add, sum_mono, sum_some, sum_times}
use Rattle.flow.proofs.Count.{gives}
use Rattle.sheet.specs.Leaves.{Place}
use Rattle.around.specs.Around.{LooksAround, adds, term, comes_from}
use Rattle.around.specs.Weight.{weigh, weighed}
use Rattle.sheet.specs.Compass.{step_at, is_arrow}
use Rattle.sheet.specs.Sheet.{code_at, count_at, land_at, dest_of}
use Rattle.std.specs.Prelude.{Some, None}
use Rattle.around.proofs.Bridge.{bridge}
use Rattle.sheet.proofs.Dest.{no_land}

-- a sum of eight, written out
pub sum_eight : (f : ℕ → ℕ) {a b c d e g h i : ℕ} → a ≡ f 0 → b ≡ f 1 → c ≡ f 2 → d ≡ f 3 → e ≡ f 4 → g ≡ f 5 → h ≡ f 6 → i ≡ f 7
    → a + b + c + d + e + g + h + i ≡ sum 8 f
unfolding sum
sum_eight f p0 p1 p2 p3 p4 p5 p6 p7 = omega arith

-- ---- weighing

-- 1 where a place has no count yet
abbrev zero_at : List ℕ → ℕ → ℕ
zero_at counts q = on (eqb (count_at counts q) 0) 1

pub weigh_is : (n : ℕ) → weigh n ≡ n + 1099511627776 * on (eqb n 0) 1
unfolding weigh
weigh_is n = elim (same n 0) [ inl e ↦ rw (eq-eqb n 0 e) (omega arith) | inr e ↦ rw (ne_eqb n 0 e) (omega arith) ]

on_weigh : (b : Bool) (n : ℕ) → on b (weigh n) ≡ on b n + 1099511627776 * on b (on (eqb n 0) 1)
on_weigh true n = weigh_is n
on_weigh false n = refl

on_le : (b : Bool) (x m : ℕ) → x ≤ m → on b x ≤ m
on_le true x m h = h
on_le false x m h = omega arith

both_on : (a b : Bool) → 0 < on a (on b 1) → (a ≡ true) × (b ≡ true)
both_on true true h = (refl, refl)
both_on true false h = absurd (omega arith)
both_on false b h = absurd (omega arith)

-- what a place adds, from the code that is read there
module _ (g : List ℕ) (w : ℕ → ℕ) (q x : ℕ) where
  -- beyond the sheet no arrow is found
  pub adds_beyond : length g ≤ q → is_arrow x ≡ true → 0 ≡ adds g w q x
  adds_beyond l a = sym (on_ne (code_at g q) x (w q) (λ e. true≢false (sym a ∙ ap is_arrow (sym e) ∙ (unfold land_at in no_land g q l))))

module _ (rows cols : ℕ) (g counts : List ℕ) (p : ℕ) where
  -- the sum of the weighed counts of p's givers: the sum of their counts, and a large number for each that has none
  given_weighed : given (rows * cols) (dest_of rows cols g) (weighed counts) p
      ≡ given (rows * cols) (dest_of rows cols g) (count_at counts) p + 1099511627776 * given (rows * cols) (dest_of rows cols g) (zero_at counts) p
  unfolding given
  given_weighed =
      sum_ext (λ q l. on_weigh (eqb (dest_of rows cols g q) p) (count_at counts q))
      ∙ sum_add (rows * cols) _ _
      ∙ ap (λ (x : ℕ). sum (rows * cols) (λ q. on (eqb (dest_of rows cols g q) p) (count_at counts q)) + x) (sum_times (rows * cols) 1099511627776 _)

  module _ (at_p : Place rows cols p) (long : length g ≡ rows * cols) (land : land_at g p ≡ true) (low : (q : ℕ) → count_at counts q < 4294967296) where
    -- the sum of eight counts is below the large number
    pub given_small : given (rows * cols) (dest_of rows cols g) (count_at counts) p < 1099511627776
    unfolding term
    given_small =
        let m : sum 8 (term rows cols g (count_at counts) p) ≤ sum 8 (λ j. 4294967295) =
        sum_mono (λ j h. on_le (eqb (code_at g (comes_from rows cols p j)) (step_at j).0) _ 4294967295 (let z = low (comes_from rows cols p j) in omega arith)) in
        let e : sum 8 (λ j. 4294967295) ≡ 34359738360 = unfold sum in refl in
        omega (arith, bridge rows cols g (count_at counts) p at_p long, on_true (sum 8 (term rows cols g (count_at counts) p)) land)

    module _ {s : ℕ} (e : s ≡ sum 8 (term rows cols g (weighed counts) p)) where
      parts : s ≡ given (rows * cols) (dest_of rows cols g) (count_at counts) p + 1099511627776 * given (rows * cols) (dest_of rows cols g) (zero_at counts) p
      parts = e ∙ sym (on_true _ land) ∙ sym (bridge rows cols g (weighed counts) p at_p long) ∙ given_weighed

      pub looks_ready : s < 1099511627776 → LooksAround rows cols g counts p (Some s)
      looks_ready h = (
        λ q l d z. let k : zero_at counts q ≤ given (rows * cols) (dest_of rows cols g) (zero_at counts) p = gives (rows * cols) (dest_of rows cols g) (zero_at counts) p q l d in
            omega (arith, parts, on_eq (count_at counts q) 0 1 z),
        omega (arith, parts),
      )

      pub looks_waiting : 1099511627776 ≤ s → LooksAround rows cols g counts p None
      unfolding given
      looks_waiting h =
          let (q, l, k) = sum_some (rows * cols) (λ q. on (eqb (dest_of rows cols g q) p) (zero_at counts q)) (omega (arith, parts, given_small)) in
          let b = both_on (eqb (dest_of rows cols g q) p) (eqb (count_at counts q) 0) k in
          (q, l, eqb-true _ _ b.0, eqb-true _ _ b.1)

      pub givers_rest : s % 1099511627776 ≡ given (rows * cols) (dest_of rows cols g) (count_at counts) p
      givers_rest = omega (arith, parts, given_small)
