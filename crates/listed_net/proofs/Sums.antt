-- Gathering: how it starts, and what one cell adds.
-- Assumes nothing.
use Rattle.std.proofs.Common.{ℕ, zero, suc, ◌+◌, ◌<◌, ◌≤◌, ◌≡◌, inl, inr, sym, ap, ◌∙◌, arith, eqb, List, length, get_or, set, replicate, length-set, get_or-set_same, get_or-set_other}
use Rattle.std.proofs.Math.ListN.{length-replicate, get_or-replicate}
use Rattle.flow.specs.Net.{on, sum, given}
use Rattle.flow.proofs.Sum.{same, on_eq, on_ne, sum_next, sum_suc}
use Rattle.flow.proofs.Walk.{below}
use Rattle.sheet.specs.Sheet.{count_at}
use Rattle.listed_net.specs.Net.{to_at}
use Rattle.listed_net.specs.Method.{Gathered}

-- one cell more
pub given_next : (k : ℕ) (to c : ℕ → ℕ) (p : ℕ) → given (k + 1) to c p ≡ given k to c p + on (eqb (to k) p) (c k)
unfolding given
given_next k to c p = sum_next k (λ q. on (eqb (to q) p) (c q))

given_suc : (k : ℕ) (to c : ℕ → ℕ) (p : ℕ) → given (suc k) to c p ≡ given k to c p + on (eqb (to k) p) (c k)
unfolding given
given_suc k to c p = sum_suc k (λ q. on (eqb (to q) p) (c q))

-- more cells give no less
pub given_rises : (k n : ℕ) (to c : ℕ → ℕ) (p : ℕ) → k ≤ n → given k to c p ≤ given n to c p
given_rises k zero to c p l = let e : k ≡ 0 = omega arith in omega (arith, ap (λ (x : ℕ). given x to c p) e)
given_rises k (suc n) to c p l =
    elim (below k (suc n)) [
      | inl b ↦ omega (arith, given_rises k n to c p (omega arith), given_suc n to c p)
      | inr b ↦ (let e : k ≡ suc n = omega arith in omega (arith, ap (λ (x : ℕ). given x to c p) e))
    ]

module _ {to : List ℕ} {held : ℕ → ℕ} where
  -- nothing is gathered yet
  pub gathered_none : {s : List ℕ} → s ≡ replicate (length to) 0 → Gathered to held s 0
  unfolding given sum
  gathered_none {s} e = record {
    long = ap length e ∙ length-replicate (length to) 0;
    holds = λ p l. ap (λ (x : List ℕ). count_at x p) e ∙ get_or-replicate (length to) p 0 0 l;
  }

  module _ {sums : List ℕ} {k : ℕ} (s : Gathered to held sums k) where
    -- the water of the next cell goes to no cell
    pub gathered_out : (to_at to k < length to → ⊥) → Gathered to held sums (k + 1)
    gathered_out b = record {
      long = s.long;
      holds = λ p l. omega (arith, s.holds p l, given_next k (to_at to) held p, on_ne (to_at to k) p (held k) (λ e. b (omega arith)));
    }

    module _ {t x : ℕ} (goes : (to_at to k < length to) × (t ≡ to_at to k)) (is_held : x ≡ held k) where
      -- or to t, and what it holds fits there
      pub gathered_fits : ((p : ℕ) → p < length to → given (length to) (to_at to) held p < 4294967296) → k < length to → count_at sums t + x < 4294967296
      gathered_fits fits l =
          let here : t < length to = omega (arith, goes.0, goes.1) in
          omega (
            arith,
            is_held,
            fits t here,
            s.holds t here,
            given_next k (to_at to) held t,
            on_eq (to_at to k) t (held k) (sym goes.1),
            given_rises (k + 1) (length to) (to_at to) held t (omega arith),
          )

      pub gathered_more : Gathered to held (set sums t (get_or sums t 0 + x)) (k + 1)
      gathered_more = record {
        long = simp length-set s.long;
        holds = λ p l. elim (same p t) [
          | inl y ↦ omega (
            arith,
            is_held,
            ap (count_at (set sums t (get_or sums t 0 + x))) y,
            ap (count_at sums) y,
            get_or-set_same sums t (get_or sums t 0 + x) 0 (omega (arith, s.long, goes.0, goes.1)),
            s.holds p l,
            given_next k (to_at to) held p,
            on_eq (to_at to k) p (held k) (sym goes.1 ∙ sym y),
          )
          | inr y ↦ omega (
            arith,
            get_or-set_other sums t p (get_or sums t 0 + x) 0 y,
            s.holds p l,
            given_next k (to_at to) held p,
            on_ne (to_at to k) p (held k) (λ e. y (sym (goes.1 ∙ e))),
          )
        ];
      }
