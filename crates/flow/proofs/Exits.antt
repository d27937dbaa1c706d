-- The net of the exits of a net that is cut into tiles: its loops are those of the whole net. Assumes nothing.
use mathlib.Core.Path.{◌≡◌, sym, ap, ◌∙◌}
use mathlib.Core.Bool.{Bool, true, false, cond, ◌&&◌}
use mathlib.Core.Logic.{inl, inr, ◌↔◌}
use Prim.Native.Nat.{ℕ, zero, suc, ◌+◌, ◌≤◌, ◌<◌}
use native.Mathlib.Omega.{arith}
use Rattle.flow.specs.Net.{steps, Down, OnLoop, NoLoop}
use Rattle.flow.specs.Path.{last}
use Rattle.flow.proofs.Sum.{test}
use Rattle.flow.proofs.Walk.{below, steps_add, inside, inside_one, down_inside, down_of, loop_on}
use Rattle.flow.proofs.Loop.{down_trans}
use Rattle.flow.proofs.Cut.{kept, kept_out, kept_steps}
use Rattle.flow.proofs.Last.{last_past, last_end, last_step}

-- p's way: the last cell of p's path inside its tile
unfoldable pub way : ℕ → (ℕ → ℕ) → (ℕ → Bool) → ℕ → ℕ
way n to cut p = last n (kept n to cut) p

-- the exit that the exit e feeds: the way of the cell that e's arrow ends at, where that way is an exit
unfoldable pub xto : ℕ → (ℕ → ℕ) → (ℕ → Bool) → ℕ → ℕ
xto n to cut e = cond (cut e && cut (way n to cut (to e))) (way n to cut (to e)) n

module _ (n : ℕ) (to : ℕ → ℕ) (cut : ℕ → Bool) where
  -- an arrow that is cut goes to no cell
  pub kept_cut : (e : ℕ) → cut e ≡ true → kept n to cut e ≡ n
  unfolding kept
  kept_cut e c = rw c

  -- one that is not is kept
  pub kept_whole : (e : ℕ) → cut e ≡ false → kept n to cut e ≡ to e
  unfolding kept
  kept_whole e c = rw c

  -- an exit is its own way
  pub way_cut : (e : ℕ) → cut e ≡ true → way n to cut e ≡ e
  unfolding way
  way_cut e c = last_past n (kept n to cut) e (omega (arith, kept_cut e c))

  -- an exit feeds the way of the cell after it, where that is an exit
  pub xto_of : (e : ℕ) → cut e ≡ true → cut (way n to cut (to e)) ≡ true → xto n to cut e ≡ way n to cut (to e)
  unfolding xto
  xto_of e c d = rw (c, d)

  module _ (out : (p : ℕ) → n ≤ p → n ≤ to p) where
    -- what is no cell is its own way
    pub way_past : (p : ℕ) → n ≤ p → way n to cut p ≡ p
    unfolding way
    way_past p h = last_past n (kept n to cut) p (kept_out n to cut out p h)

    -- what feeds an exit is an exit, and its arrow leads to a cell with that way
    pub xto_says : (e : ℕ) → xto n to cut e < n → (cut e ≡ true) × (cut (way n to cut (to e)) ≡ true) × (xto n to cut e ≡ way n to cut (to e)) × (to e < n)
    unfolding xto
    xto_says e h =
        elim (test (cut e)) [
          | inl c ↦ elim (test (cut (way n to cut (to e)))) [
            | inl d ↦ (c, d, rw (c, d), elim (below (to e) n) [ inl l ↦ l | inr l ↦ absurd (let r = rw (c, d) at h in omega (arith, way_past (to e) l)) ])
            | inr d ↦ absurd (let r = rw (c, d) at h in omega arith)
          ]
          | inr c ↦ absurd (let r = rw c at h in omega arith)
        ]

    -- outside stays outside
    pub xto_out : (p : ℕ) → n ≤ p → n ≤ xto n to cut p
    xto_out p h = elim (below (xto n to cut p) n) [ inl l ↦ (let s = xto_says p l in omega (arith, out p h)) | inr l ↦ l ]

    module _ (kfree : NoLoop n (kept n to cut)) where
      -- p's way lies on p's path
      pub way_on : (p : ℕ) → p < n → (i : ℕ) × (steps to i p ≡ way n to cut p) × (way n to cut p < n) × (n ≤ kept n to cut (way n to cut p))
      unfolding way
      way_on p l =
          let (i, s, le, h) = last_end n (kept n to cut) (kept_out n to cut out) kfree p l in
          (i, sym (kept_steps n to cut out i p (omega arith)) ∙ s, le, h)

      -- the way is the same one arrow on, inside the tile
      pub way_step : (p : ℕ) → p < n → cut p ≡ false → to p < n → way n to cut (to p) ≡ way n to cut p
      unfolding way
      way_step p l c b =
          ap (last n (kept n to cut)) (sym (kept_whole p c)) ∙ last_step n (kept n to cut) (kept_out n to cut out) kfree p l (omega (arith, kept_whole p c))

      -- the exit that e feeds is downstream of e
      exit_down : (e : ℕ) → xto n to cut e < n → Down to e (xto n to cut e)
      unfolding steps
      exit_down e h =
          let (c, d, x, b) = xto_says e h in
          let (i, t, li, hi) = way_on (to e) b in
          (i, t ∙ sym x)

      -- a walk among the exits is a part of a walk of the whole net
      pub exits_down : (k e q : ℕ) → q < n → steps (xto n to cut) (suc k) e ≡ q → Down to e q
      unfolding steps
      exits_down zero e q l s = let (i, t) = exit_down e (omega arith) in (i, t ∙ s)
      exits_down (suc k) e q l s =
          down_trans to e (xto n to cut e) q (exit_down e (inside n (xto n to cut) xto_out (suc k) (xto n to cut e) (omega arith))) (exits_down k (xto n to cut e) q l s)

      -- a walk to an exit goes from exit to exit
      pub to_exit : (k p e : ℕ) → e < n → cut e ≡ true → steps to k p ≡ e → (cut (way n to cut p) ≡ true) × ((j : ℕ) × (steps (xto n to cut) j (way n to cut p) ≡ e))
      unfolding steps
      to_exit zero p e l c s = let x : way n to cut p ≡ e = ap (way n to cut) s ∙ way_cut e c in (ap cut x ∙ c, (0, x))
      to_exit (suc k) p e l c s =
          let b : to p < n = inside n to out k (to p) (omega arith) in
          let (d, (j, t)) = to_exit k (to p) e l c s in
          elim (test (cut p)) [
            | inl cp ↦ (let x : way n to cut p ≡ p = way_cut p cp in (ap cut x ∙ cp, (suc j, ap (steps (xto n to cut) (suc j)) x ∙ ap (steps (xto n to cut) j) (xto_of p cp d) ∙ t)))
            | inr cp ↦ (let x : way n to cut (to p) ≡ way n to cut p = way_step p (inside_one n to out p b) cp b in (ap cut (sym x) ∙ d, (j, ap (steps (xto n to cut) j) (sym x) ∙ t)))
          ]

      -- an exit lies on a loop of the exits exactly where it lies on a loop of the whole net
      pub exit_loop : (e : ℕ) → cut e ≡ true → OnLoop n (xto n to cut) e ↔ OnLoop n to e
      unfolding steps
      exit_loop e c = (
        λ o. (o.0, exits_down o.1.0 e e o.0 o.1.1),
        λ o. let (d, (j, t)) = to_exit o.1.0 (to e) e o.0 c o.1.1 in (o.0, (j, ap (steps (xto n to cut) j) (xto_of e c d) ∙ t)),
      )

      -- what lies on a loop of the exits is an exit
      pub loop_exit : (e : ℕ) → OnLoop n (xto n to cut) e → cut e ≡ true
      loop_exit e o = (xto_says e (down_inside n (xto n to cut) xto_out e e o.0 o.1)).0

      -- a loop of the whole net has an exit: the way of each of its cells
      pub loop_has_exit : (p : ℕ) → OnLoop n to p → (cut (way n to cut p) ≡ true) × OnLoop n to (way n to cut p) × Down to p (way n to cut p)
      loop_has_exit p (l, (k, s)) =
          let (i, t, le, h) = way_on p l in
          let r : Down to (way n to cut p) (way n to cut p) = (k, rw (← t) (loop_on to p (suc k) i s)) in
          let m : to (way n to cut p) < n = down_inside n to out (way n to cut p) (way n to cut p) le r in (
            elim (test (cut (way n to cut p))) [ inl c ↦ c | inr c ↦ absurd (omega (arith, kept_whole (way n to cut p) c)) ],
            (le, r),
            down_of to {k = suc k + i} p (way n to cut p) (omega arith) (steps_add to (suc k) i p ∙ ap (steps to i) s ∙ t),
          )

      -- the whole net has no loop exactly where the exits have none
      pub exits_free : NoLoop n to ↔ NoLoop n (xto n to cut)
      exits_free = (
        λ free e l d. let o = (exit_loop e (loop_exit e (l, d))).0 (l, d) in free e l o.1,
        λ free p l d. let (c, o, w) = loop_has_exit p (l, d) in let x = (exit_loop (way n to cut p) c).1 o in free (way n to cut p) x.0 x.1,
      )
