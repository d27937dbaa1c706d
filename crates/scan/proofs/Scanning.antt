-- The scan over a sheet: how it starts, what each place does to what is known, and what is known when it is over.
-- Assumes nothing.
use mathlib.Core.Bool.{true, false, not, ◌&&◌}
use mathlib.Core.List.{List, []}
use mathlib.Core.Logic.{inl, inr, ◌↔◌}
use mathlib.Core.Path.{◌≡◌, sym, ap, ◌∙◌}
use Prim.Native.Nat.{ℕ, ◌+◌, ◌*◌, ◌<◌, ◌≤◌}
use native.Mathlib.Omega.{arith}
use lib.Dec.{eqb}
use lib.ListN.{length, replicate, length-replicate, get_or-replicate}
use borrow.Author.Tests.{eqb-true, eq-eqb, ne_eqb}
use Rattle.flow.specs.Net.{on, given, loop_length, Counts}
use Rattle.flow.proofs.Count.{gives}
use Rattle.flow.proofs.Scan.{looked_start, scan_start, scan_take, scan_next, scan_end, scanned, scanned_counts, scanned_free, scanned_first}
use Rattle.flow.proofs.Sum.{test, on_true, on_false, on_ne, sum_none, sum_ext, sum_some}
use Rattle.flow.proofs.Wait.{Waits, waits_past}
use Rattle.sheet.specs.Leaves.{Laid}
use Rattle.around.specs.Around.{LooksAround}
use Rattle.around.specs.Weight.{one}
use Rattle.sheet.specs.Sheet.{land_at, dest_of, outlet_at, count_at, SheetNoLoop, FirstSheetLoop, SheetOnLoop}
use Rattle.std.specs.Prelude.{Some}
use Rattle.sheet.specs.Totals.{outlets}
use Rattle.sheet.proofs.Dest.{dest_beyond, outlet_iff}
use Rattle.sheet.proofs.Gather.{number_le}
use Rattle.sheet.proofs.Places.{laid_area}
use Rattle.scan.specs.Scan.{weight, WeightsFit, Counting, Moved, found}
use Rattle.scan.proofs.Step.{gives_weight}

-- where nothing comes from elsewhere, no more is added than there are cells
pub plain_fits : {rows cols : ℕ} {g c : List ℕ} → Laid rows cols g c → WeightsFit rows cols g []
plain_fits {rows} {cols} {g} s = omega (arith, number_le (rows * cols) (land_at g), laid_area s)

module _ (rows cols : ℕ) (g m : List ℕ) where
  -- ---- the start

  pub scan_begins : {c : List ℕ} → WeightsFit rows cols g m → c ≡ replicate (rows * cols) 0 → Counting rows cols g m c 0
  scan_begins {c} fits e =
      let zeros : (p : ℕ) → p < rows * cols → count_at c p ≡ 0 = λ p l. ap (λ (x : List ℕ). count_at x p) e ∙ get_or-replicate (rows * cols) p 0 0 l in
      record {
        long = ap length e ∙ length-replicate (rows * cols) 0;
        right = record { looked = looked_start (rows * cols) (dest_of rows cols g) (weight g m) (count_at c) zeros; fits = fits };
        scanned = scan_start (rows * cols) (dest_of rows cols g) (weight g m) (count_at c) zeros;
      }

  -- where nothing is counted, no outlet is
  pub none_found : {c : List ℕ} → c ≡ replicate (rows * cols) 0 → found rows cols g c ≡ 0
  unfolding found
  none_found {c} e = sum_none (λ p l. elim (test (outlet_at rows cols g p)) [
    | inl t ↦ rw (t, eq-eqb (count_at c p) 0 (ap (λ (x : List ℕ). count_at x p) e ∙ get_or-replicate (rows * cols) p 0 0 l))
    | inr t ↦ rw t
  ])

  -- where each land cell is counted, each outlet is
  pub all_found : (c : List ℕ) → ((p : ℕ) → p < rows * cols → land_at g p ≡ true → count_at c p ≡ 0 → ⊥) → found rows cols g c ≡ outlets rows cols g
  unfolding found
  all_found c none = sum_ext (λ p l. elim (test (outlet_at rows cols g p)) [
    | inl t ↦ rw (t, ne_eqb (count_at c p) 0 (none p l ((outlet_iff rows cols g p).0 t).0))
    | inr t ↦ rw t
  ])

  pub found_le : (c : List ℕ) → found rows cols g c ≤ rows * cols
  unfolding found
  found_le c = number_le (rows * cols) (λ p. outlet_at rows cols g p && not (eqb (count_at c p) 0))

  -- ---- one place

  -- the same place, told by another number
  pub scan_place_on : (c : List ℕ) {k l : ℕ} → k ≡ l → Counting rows cols g m c k → Counting rows cols g m c l
  scan_place_on c e s = rw (sym e) s

  module _ (c : List ℕ) (k : ℕ) (s : Counting rows cols g m c k) where
    passed : (0 < weight g m k → count_at c k ≡ 0 → (q : ℕ) × (q < rows * cols) × (dest_of rows cols g q ≡ k)) → Counting rows cols g m c (k + 1)
    passed has = record { long = s.long; right = s.right; scanned = scan_next (rows * cols) (dest_of rows cols g) (weight g m) (count_at c) k has s.scanned }

    -- a cell that has its count, an absent cell, and a cell that has a giver are passed over
    pub pass_counted : (count_at c k ≡ 0 → ⊥) → Counting rows cols g m c (k + 1)
    pass_counted h = passed (λ v z. absurd (h z))

    pub pass_absent : land_at g k ≡ false → Counting rows cols g m c (k + 1)
    pass_absent e = passed (λ v z. absurd (let u : weight g m k ≡ 0 = on_false (1 + count_at m k) e in omega arith))

    pub pass_given : {t : ℕ} → t ≡ given (rows * cols) (dest_of rows cols g) one k → (t ≡ 0 → ⊥) → Counting rows cols g m c (k + 1)
    unfolding given
    pass_given {t} e h =
        let (q, l, b) = sum_some (rows * cols) (λ q. on (eqb (dest_of rows cols g q) k) 1) (omega arith) in
        passed (λ v z. (
          q,
          l,
          elim (test (eqb (dest_of rows cols g q) k)) [
            | inl x ↦ eqb-true (dest_of rows cols g q) k x
            | inr x ↦ absurd (let y : on (eqb (dest_of rows cols g q) k) 1 ≡ 0 = on_false 1 x in omega arith)
          ],
        ))

    -- where there is no giver, all are ready
    pub none_given : {t : ℕ} → t ≡ given (rows * cols) (dest_of rows cols g) one k → t ≡ 0 → LooksAround rows cols g c k (Some 0)
    unfolding given
    none_given {t} e z =
        let none : (q : ℕ) → q < rows * cols → dest_of rows cols g q ≡ k → ⊥ = λ q l d. omega (arith, gives (rows * cols) (dest_of rows cols g) one k q l d) in (
          λ q l d y. none q l d,
          sym (sum_none (λ q l. on_ne (dest_of rows cols g q) k (count_at c q) (none q l))),
        )

    -- a walk from place k is over
    pub pass_walked : {d : List ℕ} {u : ℕ} → rows * cols ≤ u → Moved rows cols g m c d k u → Counting rows cols g m d (k + 1)
    pass_walked {d} {u} h w = record {
      long = w.long;
      right = w.right;
      scanned = waits_past (rows * cols) (dest_of rows cols g) (weight g m) (count_at d) u h
          (w.scanned (k + 1) (scan_take (rows * cols) (dest_of rows cols g) (weight g m) (count_at c) k s.scanned));
    }

    -- and it counted as many outlets as it ended at
    pub walk_found : {d : List ℕ} {u n : ℕ} → k < rows * cols → n ≡ on (eqb u (rows * cols)) 1 → Moved rows cols g m c d k u → found rows cols g d ≡ found rows cols g c + n
    walk_found l e w = omega (arith, e, w.outlets_on, on_ne k (rows * cols) 1 (λ x. omega arith))

  -- ---- the end

  module _ (c : List ℕ) (long : length g ≡ rows * cols) (s : Counting rows cols g m c (rows * cols)) where
    abbrev out : (p : ℕ) → rows * cols ≤ p → rows * cols ≤ dest_of rows cols g p
    out = dest_beyond rows cols g long

    none_ahead : Waits (rows * cols) (dest_of rows cols g) (weight g m) (count_at c) (λ p. ⊥)
    none_ahead = scan_end (rows * cols) (dest_of rows cols g) (weight g m) (count_at c) (rows * cols) (omega arith) s.scanned

    weighs : (p : ℕ) → land_at g p ≡ true → 0 < weight g m p
    weighs p e = omega (arith, on_true (1 + count_at m p) e)

    lands : (p : ℕ) → 0 < weight g m p → land_at g p ≡ true
    lands p v = elim (test (land_at g p)) [ inl e ↦ e | inr e ↦ absurd (let u : weight g m p ≡ 0 = on_false (1 + count_at m p) e in omega arith) ]

    -- ZERO LEFT AFTER THE SCAN IS EXACTLY THE LOOP CELLS: of the land cells those on loops are left at 0, and no other
    pub zero_left_iff_loop : (p : ℕ) → p < rows * cols → land_at g p ≡ true → (count_at c p ≡ 0) ↔ SheetOnLoop rows cols g p
    zero_left_iff_loop p l e = scanned (rows * cols) (dest_of rows cols g) (weight g m) (count_at c) out s.right.looked none_ahead (gives_weight rows cols g m) p l (weighs p e)

    -- nothing is left: there is no loop, and all is counted
    pub none_left : ((p : ℕ) → p < rows * cols → land_at g p ≡ true → count_at c p ≡ 0 → ⊥) → SheetNoLoop rows cols g × Counts (rows * cols) (dest_of rows cols g) (weight g m) (count_at c)
    none_left none =
        let free : SheetNoLoop rows cols g = scanned_free (rows * cols) (dest_of rows cols g) (weight g m) (count_at c) out s.right.looked none_ahead (gives_weight rows cols g m) (λ p l v z. none p l (lands p v) z) in
        (free, scanned_counts (rows * cols) (dest_of rows cols g) (weight g m) (count_at c) out s.right.looked none_ahead (gives_weight rows cols g m) free)

    -- the first land cell that is left is the smallest place on any loop
    pub first_left_loop : (p : ℕ) → p < rows * cols → land_at g p ≡ true → count_at c p ≡ 0 → ((q : ℕ) → q < p → land_at g q ≡ true → count_at c q ≡ 0 → ⊥)
        → FirstSheetLoop rows cols g p (loop_length (rows * cols) (dest_of rows cols g) p)
    first_left_loop p l e z first =
        scanned_first (rows * cols) (dest_of rows cols g) (weight g m) (count_at c) out s.right.looked none_ahead (gives_weight rows cols g m) p l (weighs p e) z (λ q lq v y. first q lq (lands q v) y)
