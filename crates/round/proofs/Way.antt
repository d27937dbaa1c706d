-- The way round a loop: what is kept on it, one step more, and its end.
-- Assumes nothing.
use Rattle.std.proofs.Common.{ℕ, suc, ◌≡◌, ◌+◌, ◌<◌, ◌≤◌, refl, sym, ap, ◌∙◌, arith, below_more}
use Rattle.std.proofs.Math.Numerals.{add-one}
use Rattle.flow.specs.Net.{steps, OnLoop, loop_length}
use Rattle.flow.proofs.LoopLength.{round_length}
use Rattle.flow.proofs.Round.{round_ends, round_inside}
use Rattle.flow.proofs.Walk.{steps_suc}

-- in a net in which what is no cell leads to none, `here` is k steps on from `start`, which lies on a loop, and none of these led back
pub record Way (n : ℕ) (to : ℕ → ℕ) (start here k : ℕ) : Type 0 where
  pub out : (p : ℕ) → n ≤ p → n ≤ to p
  pub on : OnLoop n to start
  pub here_is : here ≡ steps to k start
  pub never : (i : ℕ) → i < k → steps to (suc i) start ≡ start → ⊥

pub way_start : {n : ℕ} {to : ℕ → ℕ} {start : ℕ} → ((p : ℕ) → n ≤ p → n ≤ to p) → OnLoop n to start → Way n to start start 0
unfolding steps
way_start out on = record { out = out; on = on; here_is = refl; never = λ i h e. omega arith }

module _ {n : ℕ} {to : ℕ → ℕ} {start here k : ℕ} (way : Way n to start here k) where
  pub way_inside : here < n
  way_inside = omega (arith, way.here_is, round_inside n to way.out start way.on k)

  -- it ends
  pub way_short : k < n
  way_short = round_ends n to way.out start way.on k way.never

  next_is : to here ≡ steps to (suc k) start
  next_is = ap to way.here_is ∙ sym (steps_suc to k start)

  -- the next is a cell
  pub way_next : to here < n
  way_next = omega (arith, next_is, round_inside n to way.out start way.on (suc k))

  -- which is not the start
  pub way_on : {next : ℕ} → next ≡ to here → (next ≡ start → ⊥) → Way n to start next (k + 1)
  way_on e other = record {
    out = way.out;
    on = way.on;
    here_is = rw add-one (e ∙ next_is);
    never = below_more _ _ way.never (λ back. other (e ∙ next_is ∙ back));
  }

  -- or is
  pub way_round : {next : ℕ} → next ≡ to here → next ≡ start → loop_length n to start ≡ k + 1
  way_round e back = round_length n to way.out k start way.on.0 (sym (e ∙ next_is) ∙ back) way.never ∙ sym (add-one k)
