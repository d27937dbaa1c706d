-- A step of handing on, over lists: for each way through the code what it does to the net half-way; steps put together; and the scan.
-- Assumes nothing.
use Rattle.std.proofs.Common.{List, Option, Some, None, inl, inr, ◌≡◌, refl, sym, ap, ◌∙◌, ℕ, ◌+◌, ◌-◌, ◌<◌, arith, eqb, length, get_or, set, length-set, get_or-set_same, get_or-set_other}
use Rattle.std.specs.Bool.{then_some}
use Rattle.std.proofs.lemmas.Bool.{eqb-true, eqb-false}
use Rattle.std.proofs.lemmas.Option.{same_Some, none-some}
use Rattle.flow.proofs.Sum.{same, test}
use Rattle.sheet.specs.Sheet.{count_at}
use Rattle.listed_net.specs.Net.{to_at}
use Rattle.listed_net.specs.Method.{handed_on, Half, Ready, PassedBut, Moved, Scanned, left}
use Rattle.listed_net.proofs.Handed.{HandsOn, next_waits, next_other_cell, handed, handed_holds, handed_less, handed_fits}
use Rattle.listed_net.proofs.Listed.{to_at_beyond}

module _ {to c g : List ℕ} (s : Half to c g) (t : ℕ) (ready : Ready to g (Some t)) where
  -- ---- a step, however it goes

  module _ (d h : List ℕ) (step : HandsOn (length to) (to_at to) (count_at c) (count_at g) t (count_at d) (count_at h)) where
    moved_by : length d ≡ length c → length h ≡ length g → {next : Option ℕ} → Ready to h next → ((k : ℕ) → PassedBut to g k (Some t) → PassedBut to h k next) → Moved to c g d h (Some t) next
    moved_by dl hl r p = record {
      half = record {
        cells_most = s.cells_most;
        totals_long = dl ∙ s.totals_long;
        waiting_long = hl ∙ s.waiting_long;
        handing = handed s.cells_most s.handing t ready step (to_at_beyond to);
      };
      ready = r;
      weighed = handed_holds s.cells_most s.handing t ready step;
      passed = p;
    }

    less_by : left to h < left to g
    unfolding left
    less_by = handed_less s.cells_most s.handing t ready step

  -- ---- t is marked

  mark : count_at (set g t handed_on) t ≡ handed_on
  mark = get_or-set_same g t handed_on 0 (omega (arith, s.waiting_long, ready.0))

  still : (q : ℕ) → (q ≡ t → ⊥) → count_at (set g t handed_on) q ≡ count_at g q
  still q e = get_or-set_other g t q handed_on 0 e

  -- ---- its water goes to no cell

  module _ (out : to_at to t < length to → ⊥) where
    step_out : HandsOn (length to) (to_at to) (count_at c) (count_at g) t (count_at c) (count_at (set g t handed_on))
    step_out = record {
      mark = mark;
      fewer = λ l. absurd (out l);
      still = λ q l e x. still q e;
      given_on = λ l. absurd (out l);
      other = λ q l e. refl;
    }

    pub moved_out : Moved to c g c (set g t handed_on) (Some t) None
    moved_out = moved_by c (set g t handed_on) step_out refl (length-set g t handed_on) tt (λ k w p l lk e z. elim (same p t) [
      | inl x ↦ omega (arith, mark, ap (count_at (set g t handed_on)) x)
      | inr x ↦ w p l lk (λ y. x (same_Some p t y)) (sym (still p x) ∙ z)
    ])

    pub moved_out_less : left to (set g t handed_on) < left to g
    moved_out_less = less_by c (set g t handed_on) step_out

  -- ---- its water goes to cell u

  module _ (u : ℕ) (goes : (to_at to t < length to) × (u ≡ to_at to t)) where
    off : u ≡ t → ⊥
    off x = next_other_cell s.cells_most s.handing t ready (sym goes.1 ∙ x)

    -- u waits for t still
    pub next_some : 0 < get_or (set g t handed_on) u 0
    next_some = omega (arith, still u off, ap (count_at g) goes.1, (next_waits s.cells_most s.handing t ready goes.0).0)

    -- then for one giver fewer
    h : List ℕ
    h = set (set g t handed_on) u (get_or (set g t handed_on) u 0 - 1)

    here : u < length (set g t handed_on)
    here = omega (arith, goes.0, goes.1, length-set g t handed_on, s.waiting_long)

    at_u : count_at h u + 1 ≡ count_at g u
    unfolding h
    at_u = omega (arith, get_or-set_same (set g t handed_on) u (get_or (set g t handed_on) u 0 - 1) 0 here, next_some, still u off)

    at_t : count_at h t ≡ handed_on
    unfolding h
    at_t = get_or-set_other (set g t handed_on) u t (get_or (set g t handed_on) u 0 - 1) 0 (λ x. off (sym x)) ∙ mark

    elsewhere : (q : ℕ) → (q ≡ t → ⊥) → (q ≡ to_at to t → ⊥) → count_at h q ≡ count_at g q
    unfolding h
    elsewhere q x y = get_or-set_other (set g t handed_on) u q (get_or (set g t handed_on) u 0 - 1) 0 (λ z. y (z ∙ goes.1)) ∙ still q x

    -- and holds what t holds too
    d : List ℕ
    d = set c u (get_or c u 0 + get_or c t 0)

    step_in : HandsOn (length to) (to_at to) (count_at c) (count_at g) t (count_at d) (count_at h)
    unfolding d
    step_in = record {
      mark = at_t;
      fewer = λ l. rw (← goes.1) at_u;
      still = λ q l. elsewhere q;
      given_on = λ l. rw (← goes.1) (get_or-set_same c u (get_or c u 0 + get_or c t 0) 0 (omega (arith, goes.0, goes.1, s.totals_long)));
      other = λ q l x. get_or-set_other c u q (get_or c u 0 + get_or c t 0) 0 (λ y. x (y ∙ goes.1));
    }

    -- neither t, which is marked, nor a cell that waited before waits for none now, but perhaps u
    passed_but : (k : ℕ) → PassedBut to g k (Some t) → PassedBut to h k (Some u)
    passed_but k w p l lk x z = elim (same p t) [
      | inl y ↦ omega (arith, at_t, ap (count_at h) y)
      | inr y ↦ w p l lk (λ a. y (same_Some p t a)) (sym (elsewhere p y (λ a. x (ap Some (a ∙ sym goes.1)))) ∙ z)
    ]

    -- where u waits for none now, it is next
    pub moved_in : Moved to c g (set c u (get_or c u 0 + get_or c t 0)) (set (set g t handed_on) u (get_or (set g t handed_on) u 0 - 1)) (Some t) (then_some (eqb (get_or (set (set g t handed_on) u (get_or (set g t handed_on) u 0 - 1)) u 0) 0) u)
    unfolding d h
    moved_in = elim (test (eqb (get_or h u 0) 0)) [
      | inl none ↦ rw none (moved_by d h step_in (length-set c u _) (length-set (set g t handed_on) u _ ∙ length-set g t handed_on) (omega (arith, goes.0, goes.1), eqb-true _ _ none) passed_but)
      | inr some ↦ rw some (moved_by d h step_in (length-set c u _) (length-set (set g t handed_on) u _ ∙ length-set g t handed_on) tt (λ k w p l lk x z. elim (same p u) [
        | inl y ↦ eqb-false _ _ some (ap (count_at h) (sym y) ∙ z)
        | inr y ↦ passed_but k w p l lk (λ a. y (same_Some p u a)) z
      ]))
    ]

    -- what u then holds fits
    pub next_fits : get_or c u 0 + get_or c t 0 < 4294967296
    next_fits = omega (arith, ap (count_at c) goes.1, handed_fits s.cells_most s.handing t ready step_in goes.0)

    pub moved_less : left to (set (set g t handed_on) u (get_or (set g t handed_on) u 0 - 1)) < left to g
    unfolding h d
    moved_less = less_by d h step_in

-- ---- steps put together

module _ {to : List ℕ} where
  pub moved_on : {c g d h e i : List ℕ} {t u v : Option ℕ} → Moved to c g d h t u → Moved to d h e i u v → Moved to c g e i t v
  moved_on m n = record {
    half = n.half;
    ready = n.ready;
    weighed = λ w a. n.weighed w (m.weighed w a);
    passed = λ k w. n.passed k (m.passed k w);
  }

  -- ---- the scan

  -- it passes over cell k, which waits
  pub scanned_over : {c g d h : List ℕ} {k : ℕ} → Scanned to c g d h k → (get_or h k 0 ≡ 0 → ⊥) → Scanned to c g d h (k + 1)
  scanned_over {h = h} {k = k} s some = record {
    half = s.half;
    weighed = s.weighed;
    passed = λ p l lk z. elim (same p k) [ inl e ↦ some (ap (count_at h) (sym e) ∙ z) | inr e ↦ s.passed p l (omega arith) z ];
  }

  -- or a walk goes down from cell k
  pub scanned_walked : {c g d h e i : List ℕ} {k : ℕ} → Scanned to c g d h k → Moved to d h e i (Some k) None → Scanned to c g e i (k + 1)
  scanned_walked {k = k} s m = record {
    half = m.half;
    weighed = λ w a. m.weighed w (s.weighed w a);
    passed = λ p l lk z. m.passed (k + 1) (λ q lq lqk x. let other : q ≡ k → ⊥ = λ e. x (ap Some e) in s.passed q lq (omega arith)) p l lk (λ e. none-some p (sym e)) z;
  }
