-- One step of the look-around method on a sheet: what writing a cell's count, or leaving it to wait, does to what is known half-way.
-- Assumes nothing.
use mathlib.Core.Bool.{Bool, true, false, not, ◌&&◌}
use mathlib.Core.List.{List}
use mathlib.Core.Logic.{inl, inr}
use mathlib.Core.Path.{◌≡◌, refl, sym, ◌∙◌}
use Prim.Native.Nat.{ℕ, ◌+◌, ◌*◌, ◌<◌}
use native.Mathlib.Omega.{arith}
use lib.Dec.{eqb, ltb}
use lib.ListN.{length, set, length-set}
use lib.Seq.{get_or-set_same, get_or-set_other}
use borrow.Author.Tests.{lt-ltb, le-ltb, eq-eqb, ne_eqb}
use Rattle.flow.specs.Net.{on}
use Rattle.flow.proofs.LookBound.{looked_bound}
use Rattle.flow.proofs.LookStep.{look_step, zeros_fall}
use Rattle.flow.proofs.Scan.{EndsWeigh}
use Rattle.flow.proofs.Sum.{same, on_true, on_false, on_ne, sum_change}
use Rattle.flow.proofs.Bound.{on_le}
use Rattle.flow.proofs.Wait.{waits_on, waits_stop, waits_less}
use Rattle.sheet.specs.Leaves.{Laid}
use Rattle.around.specs.Around.{LooksAround}
use Rattle.sheet.specs.Sheet.{land_at, dest_of, outlet_at, count_at}
use Rattle.std.specs.Prelude.{Some, None}
use Rattle.sheet.proofs.Dest.{from_land, to_land, dest_le, dest_beyond}
use Rattle.scan.specs.Scan.{weight, RightSoFar, ToCount, Moved, found, left}

-- ---- outlets that have their count

not_yet : (b : Bool) (n : ℕ) → n ≡ 0 → on (b && not (eqb n 0)) 1 ≡ 0
not_yet true n e = rw (eq-eqb n 0 e)
not_yet false n e = refl

now_counted : (b : Bool) (n : ℕ) → (n ≡ 0 → ⊥) → on (b && not (eqb n 0)) 1 ≡ on b 1
now_counted true n e = rw (ne_eqb n 0 e)
now_counted false n e = refl

-- a land cell is an outlet exactly when its water goes to no cell
outlet_one : (rows cols : ℕ) (g : List ℕ) (t : ℕ) {u : ℕ} → length g ≡ rows * cols → land_at g t ≡ true → u ≡ dest_of rows cols g t → on (outlet_at rows cols g t) 1 ≡ on (eqb u (rows * cols)) 1
unfolding outlet_at
outlet_one rows cols g t {u} long land e =
    rw (land, ← e) (elim (same u (rows * cols)) [
      | inl x ↦ rw (eq-eqb u (rows * cols) x, le-ltb u (rows * cols) (omega arith))
      | inr x ↦ rw (ne_eqb u (rows * cols) x, lt-ltb u (rows * cols) (omega (arith, dest_le rows cols g long t)))
    ])

-- ---- what cells add

-- a cell that gives adds something itself, and so does the cell that it gives to
pub gives_weight : (rows cols : ℕ) (g m : List ℕ) → EndsWeigh (rows * cols) (dest_of rows cols g) (weight g m)
gives_weight rows cols g m p h l = (
  omega (arith, on_true (1 + count_at m p) (from_land rows cols g p refl l)),
  omega (arith, on_true (1 + count_at m (dest_of rows cols g p)) (to_land rows cols g p refl l)),
)

-- ---- one step

module _ (rows cols : ℕ) (g m c : List ℕ) (t : ℕ) (laid : Laid rows cols g c) (right : RightSoFar rows cols g m c) (lt : t < rows * cols) (to_count : ToCount rows cols g c t) where
  land : land_at g t ≡ true
  land = (to_count lt).0

  none_yet : count_at c t ≡ 0
  none_yet = (to_count lt).1

  -- t waits for a giver: nothing moves, and the walk is over, though at no outlet
  pub waited : (u : ℕ) → rows * cols < u → LooksAround rows cols g c t None → Moved rows cols g m c c t u
  waited u h w = record {
    long = laid.counts_long;
    right = right;
    scanned = λ k s. waits_less (rows * cols) (dest_of rows cols g) (weight g m) (count_at c) (λ p l v z a. inl (inr a)) (waits_stop (rows * cols) (dest_of rows cols g) (weight g m) (count_at c) t w s);
    to_count = λ l. absurd (omega arith);
    outlets_on = omega (arith, on_ne t (rows * cols) 1 (λ e. omega arith), on_ne u (rows * cols) 1 (λ e. omega arith));
  }

  pub waited_less : (u : ℕ) → rows * cols < u → left rows cols c u < left rows cols c t
  unfolding left
  waited_less u h = omega (arith, on_false 1 (le-ltb u (rows * cols) (omega arith)), on_true 1 (lt-ltb t (rows * cols) lt))

  -- t's givers have their counts, s together: t gets these and what it adds itself
  module _ (s own : ℕ) (own_is : own ≡ 1 + count_at m t) (around : LooksAround rows cols g c t (Some s)) where
    d : List ℕ
    d = set c t (s + own)

    stored : count_at d t ≡ s + own
    unfolding d
    stored = get_or-set_same c t (s + own) 0 (omega (arith, laid.counts_long))

    other : (q : ℕ) → q < rows * cols → (q ≡ t → ⊥) → count_at d q ≡ count_at c q
    unfolding d
    other q l e = get_or-set_other c t q (s + own) 0 e

    counted : count_at d t ≡ 0 → ⊥
    counted z = omega (arith, stored, own_is)

    right_on : RightSoFar rows cols g m d
    right_on = record {
      looked = look_step (rows * cols) (dest_of rows cols g) (weight g m) (count_at c) (count_at d) t lt none_yet around.0 other (omega (arith, stored, own_is, around.1, on_true (1 + count_at m t) land)) right.looked;
      fits = right.fits;
    }

    pub fits : s + own < 4294967296
    fits = omega (
      arith,
      stored,
      looked_bound (rows * cols) (dest_of rows cols g) (weight g m) (count_at d) (dest_beyond rows cols g laid.grid_long) right_on.looked (gives_weight rows cols g m) t lt,
      right.fits,
    )

    -- the cell that t's water goes to has no count yet
    next_open : {u : ℕ} → u ≡ dest_of rows cols g t → ToCount rows cols g d u
    next_open {u} e l =
        let not_t : u ≡ t → ⊥ = λ x. around.0 t lt (sym e ∙ x) none_yet in
        let zero_at_lem : count_at c u ≡ 0 = elim (same (count_at c u) 0) [ inl z ↦ z | inr h ↦ absurd (right.looked.before u t l lt h (sym e) none_yet) ] in
        (to_land rows cols g t (sym e) l, other u l not_t ∙ zero_at_lem)

    -- one more outlet has its count where t is one
    outlet_more : {u : ℕ} → u ≡ dest_of rows cols g t → found rows cols g d ≡ found rows cols g c + on (eqb u (rows * cols)) 1
    unfolding found
    outlet_more {u} e =
        let change = sum_change {f = λ p. on (outlet_at rows cols g p && not (eqb (count_at d p) 0)) 1} {g = λ p. on (outlet_at rows cols g p && not (eqb (count_at c p) 0)) 1} lt
        (λ q l h. rw (other q l h)) in
        omega (arith, change, not_yet (outlet_at rows cols g t) (count_at c t) none_yet, now_counted (outlet_at rows cols g t) (count_at d t) counted, outlet_one rows cols g t laid.grid_long land e)

    pub settled : {u : ℕ} → u ≡ dest_of rows cols g t → Moved rows cols g m c (set c t (s + own)) t u
    unfolding d
    settled {u} e = record {
      long = simp length-set laid.counts_long;
      right = right_on;
      scanned = λ k w. rw e (waits_on (rows * cols) (dest_of rows cols g) (weight g m) (count_at c) (count_at d) t other counted w);
      to_count = next_open e;
      outlets_on = omega (arith, outlet_more e, on_ne t (rows * cols) 1 (λ x. omega arith));
    }

    pub settled_less : (u : ℕ) → left rows cols (set c t (s + own)) u < left rows cols c t
    unfolding left d
    settled_less u =
        omega (
          arith,
          on_le (ltb u (rows * cols)) 1,
          on_true 1 (lt-ltb t (rows * cols) lt),
          zeros_fall (rows * cols) (dest_of rows cols g) (weight g m) (count_at c) (count_at d) t lt none_yet around.0 other (omega (arith, stored, own_is, around.1, on_true (1 + count_at m t) land)) counted,
        )

-- ---- steps put together

module _ (rows cols : ℕ) (g m : List ℕ) where
  pub moved_on : (a b c : List ℕ) (t u v : ℕ) → Moved rows cols g m a b t u → Moved rows cols g m b c u v → Moved rows cols g m a c t v
  moved_on a b c t u v x y = record {
    long = y.long;
    right = y.right;
    scanned = λ k w. y.scanned k (x.scanned k w);
    to_count = y.to_count;
    outlets_on = omega (arith, x.outlets_on, y.outlets_on);
  }
