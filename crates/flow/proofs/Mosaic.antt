-- A net in tiles, each with numbers of its own, and the net of the tiles' border cells: what tiles and their join compute is what the whole holds.
-- Assumes nothing.
use mathlib.Core.Path.{◌≡◌, sym, ap, ◌∙◌}
use mathlib.Core.Bool.{Bool, true, ◌&&◌}
use mathlib.Core.Logic.{inl, inr, ◌↔◌}
use Prim.Native.Nat.{ℕ, ◌+◌, ◌≤◌, ◌<◌}
use native.Mathlib.Omega.{arith}
use lib.Dec.{eqb}
use Rattle.flow.specs.Net.{on, sum, Counts, Down, OnLoop, NoLoop}
use Rattle.flow.proofs.Sum.{test, sum_ext}
use Rattle.flow.proofs.Through.{through}
use Rattle.flow.proofs.Count.{through_counts}
use Rattle.flow.proofs.Cut.{kept, incoming, kept_out, kept_free}
use Rattle.flow.proofs.Exits.{xto, xto_out, exits_free, exit_loop, loop_exit}
use Rattle.flow.proofs.Totals.{incoming_same, totals, finished}
use Rattle.flow.proofs.Part.{Part, sum_part, part_free, part_down, part_loop, part_value}

-- the whole net (n, to), its arrows that are cut, its K tiles (m t, ton t) with their places `at t` in the whole, and the net (M, jto) of their border cells;
-- border cell g is the cell bx g of tile bt g
pub record Mosaic (n : ℕ) (to : ℕ → ℕ) (cut : ℕ → Bool) (K : ℕ) (m : ℕ → ℕ) (ton at : ℕ → ℕ → ℕ) (M : ℕ) (jto bt bx : ℕ → ℕ) : Type 0 where
  pub out : (p : ℕ) → n ≤ p → n ≤ to p
  -- each tile is a part of the net that is left when the cut arrows are taken away
  pub tile : (t : ℕ) → t < K → Part (m t) n (ton t) (kept n to cut) (at t)
  pub tile_out : (t : ℕ) → t < K → (x : ℕ) → m t ≤ x → m t ≤ ton t x
  -- each cell lies in a tile
  pub cover : (p : ℕ) → p < n → (t : ℕ) × (x : ℕ) × (t < K) × (x < m t) × (at t x ≡ p)
  pub border : (g : ℕ) → g < M → (bt g < K) × (bx g < m (bt g))
  -- the border cells' net is a part of the net of the exits, with all exits
  pub join : Part M n jto (xto n to cut) (λ g. at (bt g) (bx g))
  pub join_out : (g : ℕ) → M ≤ g → M ≤ jto g
  pub exits : (e : ℕ) → e < n → cut e ≡ true → (g : ℕ) × (g < M) × (at (bt g) (bx g) ≡ e)

module _ (n : ℕ) (to : ℕ → ℕ) (cut : ℕ → Bool) (K : ℕ) (m : ℕ → ℕ) (ton at : ℕ → ℕ → ℕ) (M : ℕ) (jto bt bx : ℕ → ℕ) (s : Mosaic n to cut K m ton at M jto bt bx) where
  -- outside stays outside
  kout : (p : ℕ) → n ≤ p → n ≤ kept n to cut p
  kout = kept_out n to cut s.out

  -- the cut net has no loop exactly where no tile has one
  pub tiles_free : NoLoop n (kept n to cut) ↔ ((t : ℕ) → t < K → NoLoop (m t) (ton t))
  tiles_free = (
    λ free t l. part_free (m t) n (ton t) (kept n to cut) (at t) (s.tile t l) (s.tile_out t l) kout free,
    λ free p l d.
        let (t, x, lt, lx, e) = s.cover p l in
        let d' : Down (kept n to cut) (at t x) (at t x) = rw e d in
        free t lt x lx ((part_down (m t) n (ton t) (kept n to cut) (at t) (s.tile t lt) (s.tile_out t lt) kout x x lx lx).1 d'),
  )

  -- the exits have no loop exactly where the join has none
  pub join_free : NoLoop n (kept n to cut) → NoLoop n (xto n to cut) ↔ NoLoop M jto
  join_free kfree = (
    part_free M n jto (xto n to cut) (λ g. at (bt g) (bx g)) s.join s.join_out (xto_out n to cut s.out),
    λ free p l d.
        let (g, lg, e) = s.exits p l (loop_exit n to cut s.out kfree p (l, d)) in
        let d' : Down (xto n to cut) (at (bt g) (bx g)) (at (bt g) (bx g)) = rw e d in
        free g lg ((part_down M n jto (xto n to cut) (λ g. at (bt g) (bx g)) s.join s.join_out (xto_out n to cut s.out) g g lg lg).1 d'),
  )

  -- a border cell lies on a loop of the join exactly where it is an exit and lies on a loop of the whole
  pub join_loop : NoLoop n (kept n to cut) → (g : ℕ) → g < M → OnLoop M jto g ↔ ((cut (at (bt g) (bx g)) ≡ true) × OnLoop n to (at (bt g) (bx g)))
  join_loop kfree g l =
      let j = part_loop M n jto (xto n to cut) (λ g. at (bt g) (bx g)) s.join s.join_out (xto_out n to cut s.out) g l in (
        λ o. let x = j.0 o in let c = loop_exit n to cut s.out kfree (at (bt g) (bx g)) x in (c, (exit_loop n to cut s.out kfree (at (bt g) (bx g)) c).0 x),
        λ o. j.1 ((exit_loop n to cut s.out kfree (at (bt g) (bx g)) o.0).1 o.1),
      )

  -- the whole has no loop exactly where no tile has one and the join has none
  pub whole_free : NoLoop n to ↔ (((t : ℕ) → t < K → NoLoop (m t) (ton t)) × NoLoop M jto)
  whole_free = (
    λ free. let k = kept_free n to cut s.out free in (tiles_free.0 k, (join_free k).0 ((exits_free n to cut s.out k).0 free)),
    λ f. let k = tiles_free.1 f.0 in (exits_free n to cut s.out k).1 ((join_free k).1 f.1),
  )

  module _ (free : NoLoop n to) (w c : ℕ → ℕ) (hc : Counts n to w c) (tw d : ℕ → ℕ → ℕ)
      (weights : (t x : ℕ) → t < K → x < m t → tw t x ≡ w (at t x))
      (counted : (t : ℕ) → t < K → Counts (m t) (ton t) (tw t) (d t))
      (J : ℕ → ℕ) (joined : Counts M jto (λ g. on (cut (at (bt g) (bx g))) (d (bt g) (bx g))) J) where
    -- the cut net and the exits have no loop
    kfree : NoLoop n (kept n to cut)
    kfree = kept_free n to cut s.out free

    xfree : NoLoop n (xto n to cut)
    xfree = (exits_free n to cut s.out kfree).0 free

    -- the counts of the cut net
    D : ℕ → ℕ
    D = through n (kept n to cut) w

    -- the totals of the exits
    T : ℕ → ℕ
    T = through n (xto n to cut) (λ e. on (cut e) (D e))

    D-counts : Counts n (kept n to cut) w D
    unfolding D
    D-counts = through_counts n (kept n to cut) kout kfree w

    T-counts : Counts n (xto n to cut) (λ e. on (cut e) (D e)) T
    unfolding T
    T-counts = through_counts n (xto n to cut) (xto_out n to cut s.out) xfree (λ e. on (cut e) (D e))

    -- a tile's count is that of the cut net
    tile_count_lem : (t x : ℕ) → t < K → x < m t → d t x ≡ D (at t x)
    tile_count_lem t x lt lx =
        part_value (m t) n (ton t) (kept n to cut) (at t) (s.tile t lt) (s.tile_out t lt) kout (tiles_free.0 kfree t lt) (tw t) w (d t) D
        (λ x lx. weights t x lt lx) (counted t lt) D-counts x lx

    -- a border cell's total is that of the exits' net
    total_is : (g : ℕ) → g < M → J g ≡ T (at (bt g) (bx g))
    total_is =
        part_value M n jto (xto n to cut) (λ g. at (bt g) (bx g)) s.join s.join_out (xto_out n to cut s.out) ((join_free kfree).0 xfree)
        (λ g. on (cut (at (bt g) (bx g))) (d (bt g) (bx g))) (λ e. on (cut e) (D e)) J T
        (λ g lg. ap (λ (y : ℕ). on (cut (at (bt g) (bx g))) y) (tile_count_lem (bt g) (bx g) (s.border g lg).0 (s.border g lg).1)) joined T-counts

    -- what comes in at a cell is what the join sums over the border cells
    came_in : (p : ℕ) → incoming n to cut T p ≡ sum M (λ g. on (cut (at (bt g) (bx g)) && eqb (to (at (bt g) (bx g))) p) (J g))
    unfolding incoming
    came_in p =
        sum_part M n (λ g. at (bt g) (bx g)) s.join.places (λ q. on (cut q && eqb (to q) p) (T q))
        (λ q lq h. elim (test (cut q)) [ inl e ↦ (let (g, lg, eg) = s.exits q lq e in absurd (h g lg eg)) | inr e ↦ rw e ])
        ∙ sum_ext (λ g lg. rw (total_is g lg))

    -- which is what comes in by the whole's counts
    pub came_count : (p : ℕ) → sum M (λ g. on (cut (at (bt g) (bx g)) && eqb (to (at (bt g) (bx g))) p) (J g)) ≡ incoming n to cut c p
    came_count p = sym (came_in p) ∙ incoming_same n to cut T c p (totals n to cut s.out free w c D hc D-counts T T-counts)

    module _ (inc f : ℕ → ℕ → ℕ)
        (incs : (t x : ℕ) → t < K → x < m t → inc t x ≡ sum M (λ g. on (cut (at (bt g) (bx g)) && eqb (to (at (bt g) (bx g))) (at t x)) (J g)))
        (finishes : (t : ℕ) → t < K → Counts (m t) (ton t) (λ x. tw t x + inc t x) (f t)) where
      -- the counts of the cut net with what comes in
      F : ℕ → ℕ
      F = through n (kept n to cut) (λ p. w p + incoming n to cut T p)

      F-counts : Counts n (kept n to cut) (λ p. w p + incoming n to cut T p) F
      unfolding F
      F-counts = through_counts n (kept n to cut) kout kfree (λ p. w p + incoming n to cut T p)

      -- finished tiles hold the whole's counts
      pub mosaic : (t x : ℕ) → t < K → x < m t → f t x ≡ c (at t x)
      mosaic t x lt lx =
          part_value (m t) n (ton t) (kept n to cut) (at t) (s.tile t lt) (s.tile_out t lt) kout (tiles_free.0 kfree t lt)
          (λ x. tw t x + inc t x) (λ p. w p + incoming n to cut T p) (f t) F
          (λ x lx. omega (arith, weights t x lt lx, incs t x lt lx, came_in (at t x))) (finishes t lt) F-counts x lx
          ∙ finished n to cut s.out free w c D hc D-counts T T-counts F F-counts (at t x) ((s.tile t lt).places.into x lx)
