-- Two nets that differ at most at cell t and in the arrows onto it: the counts are the same at each cell that is neither t nor downstream of t in either net.
-- Assumes nothing.
use mathlib.Core.Path.{◌≡◌, refl, sym, ap, ◌∙◌}
use mathlib.Core.Bool.{false, true≢false}
use mathlib.Core.Logic.{inl, inr, ◌↔◌}
use Prim.Native.Nat.{ℕ, zero, suc, ◌≤◌, ◌<◌}
use native.Mathlib.Omega.{arith}
use borrow.Author.Tests.{ne_eqb}
use Rattle.flow.specs.Net.{steps, Counts, Down, NoLoop, downb}
use Rattle.flow.proofs.Sum.{test_iff, same, sum_ext}
use Rattle.flow.proofs.Walk.{inside, inside_one, downb_iff}
use Rattle.flow.proofs.Passes.{counts_passes}

-- the same arrows between cells other than t. An arrow onto t may go nowhere in the other net: so it does where t is absent there
abbrev pub Alike : ℕ → ℕ → (ℕ → ℕ) → (ℕ → ℕ) → Type 0
Alike n t to to' = (q r : ℕ) → q < n → r < n → (q ≡ t → ⊥) → (r ≡ t → ⊥) → (to q ≡ r) ↔ (to' q ≡ r)

-- either way round
pub alike_sym : (n t : ℕ) (to to' : ℕ → ℕ) → Alike n t to to' → Alike n t to' to
alike_sym n t to to' h q r lq lr dq dr = let (a, b) = h q r lq lr dq dr in (b, a)

-- a walk to a cell that is neither t nor downstream of t does not come to t, so it is a walk of both nets
module _ (n t : ℕ) (to to' : ℕ → ℕ) (out : (p : ℕ) → n ≤ p → n ≤ to p) (alike : Alike n t to to') (p : ℕ) (l : p < n) (off : p ≡ t → ⊥) (above : Down to t p → ⊥) where
  not_over : (k q : ℕ) → steps to k q ≡ p → q ≡ t → ⊥
  unfolding steps
  not_over zero q e x = off (sym e ∙ x)
  not_over (suc k) q e x = above (k, ap (steps to (suc k)) (sym x) ∙ e)

  same_walk : (k q : ℕ) → steps to k q ≡ p → steps to' k q ≡ p
  unfolding steps
  same_walk zero q e = e
  same_walk (suc k) q e =
      let next : to q < n = inside n to out k (to q) (omega arith) in
      ap (steps to' k) ((alike q (to q) (inside_one n to out q next) next (not_over (suc k) q e) (not_over k (to q) e)).0 refl) ∙ same_walk k (to q) e

  -- so what has p downstream in the one net has it in the other
  pub same_down : (q : ℕ) → Down to q p → Down to' q p
  same_down q (k, e) = (k, same_walk (suc k) q e)

-- a walk that never comes to t is one of both nets too
module _ (n t : ℕ) (to to' : ℕ → ℕ) (out : (p : ℕ) → n ≤ p → n ≤ to p) (alike : Alike n t to to') where
  away_walk : (k q : ℕ) → (q ≡ t → ⊥) → (Down to q t → ⊥) → steps to k q < n → steps to' k q ≡ steps to k q
  unfolding steps
  away_walk zero q off never l = refl
  away_walk (suc k) q off never l =
      let next : to q < n = inside n to out k (to q) l in
      let off_next : to q ≡ t → ⊥ = λ e. never (0, e) in
      ap (steps to' k) ((alike q (to q) (inside_one n to out q next) next off off_next).0 refl)
      ∙ away_walk k (to q) off_next (λ (j, e). never (suc j, e)) l

  -- so what is downstream of such a cell in the one net is so in the other
  pub away_down : (q p : ℕ) → (q ≡ t → ⊥) → (Down to q t → ⊥) → p < n → Down to q p → Down to' q p
  away_down q p off never l (k, e) = (k, away_walk (suc k) q off never (omega arith) ∙ e)

module _ (n t : ℕ) (to to' : ℕ → ℕ) (out : (p : ℕ) → n ≤ p → n ≤ to p) (out' : (p : ℕ) → n ≤ p → n ≤ to' p) (alike : Alike n t to to') where
  -- the same cells have p downstream in both nets
  same_downb : (p : ℕ) → p < n → (p ≡ t → ⊥) → downb n to t p ≡ false → downb n to' t p ≡ false → (q : ℕ) → downb n to q p ≡ downb n to' q p
  same_downb p l off above above' q =
      let (a, b) = downb_iff n to out q p l in
      let (a', b') = downb_iff n to' out' q p l in
      let dry : Down to t p → ⊥ = λ d. true≢false (sym ((downb_iff n to out t p l).1 d) ∙ above) in
      let dry' : Down to' t p → ⊥ = λ d. true≢false (sym ((downb_iff n to' out' t p l).1 d) ∙ above') in
      test_iff _ _ (
        λ e. b' (same_down n t to to' out alike p l off dry q (a e)),
        λ e. b (same_down n t to' to out' (alike_sym n t to to' alike) p l off dry' q (a' e)),
      )

  -- a change at t changes no count but at t and downstream of t, before the change or after
  pub differs_only : NoLoop n to → NoLoop n to' → (w w' : ℕ → ℕ) → ((q : ℕ) → q < n → (q ≡ t → ⊥) → w' q ≡ w q)
      → (c d : ℕ → ℕ) → Counts n to w c → Counts n to' w' d
      → (p : ℕ) → p < n → (p ≡ t → ⊥) → downb n to t p ≡ false → downb n to' t p ≡ false → c p ≡ d p
  differs_only free free' w w' weights c d hc hd p l off above above' =
      counts_passes n to out free w c hc p l
      ∙ sum_ext (λ q lq. elim (same q t) [
        | inl e ↦ rw (ne_eqb q p (λ x. off (sym x ∙ e)), ap (λ (r : ℕ). downb n to r p) e ∙ above, ap (λ (r : ℕ). downb n to' r p) e ∙ above')
        | inr e ↦ rw (same_downb p l off above above' q, weights q lq e)
      ])
      ∙ sym (counts_passes n to' out' free' w' d hd p l)
