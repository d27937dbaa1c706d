-- The counts of a net that is cut into tiles, from the counts of its tiles and the totals of its exits. Assumes nothing.
use mathlib.Core.Path.{◌≡◌, sym, ap, ◌∙◌}
use mathlib.Core.Bool.{Bool, true, false, true≢false}
use mathlib.Core.Logic.{inl, inr}
use Prim.Native.Nat.{ℕ, ◌+◌, ◌≤◌, ◌<◌}
use native.Mathlib.Omega.{arith}
use lib.Dec.{eqb}
use borrow.Author.Tests.{eqb-true, eq-eqb}
use Rattle.flow.specs.Net.{on, sum, given, Counts, NoLoop}
use Rattle.flow.proofs.Sum.{test, test_iff, on_true, on_ne, on_zero, on_and, sum_ext, sum_none}
use Rattle.flow.proofs.Through.{gather}
use Rattle.flow.proofs.Count.{counts_through, counts_unique}
use Rattle.flow.proofs.Cut.{kept, incoming, kept_out, kept_free, cut_iff, cut_through}
use Rattle.flow.proofs.Last.{through_last}
use Rattle.flow.proofs.Exits.{way, xto, kept_cut, way_past, xto_of, xto_says, xto_out, exits_free}

-- the equation, for weights that are the same below n
pub counts_weights : (n : ℕ) (to w v c : ℕ → ℕ) → ((p : ℕ) → p < n → w p ≡ v p) → Counts n to w c → Counts n to v c
counts_weights n to w v c e h p l = omega (arith, h p l, e p l)

module _ (n : ℕ) (to : ℕ → ℕ) (cut : ℕ → Bool) where
  -- what comes in is what the exits give
  pub incoming_given : (c : ℕ → ℕ) (p : ℕ) → incoming n to cut c p ≡ given n to (λ r. on (cut r) (c r)) p
  unfolding incoming given
  incoming_given c p = sum_ext (λ r l. on_and (cut r) (eqb (to r) p) (c r))

  -- what comes in is told by the counts at the exits
  pub incoming_same : (c d : ℕ → ℕ) (p : ℕ) → ((q : ℕ) → q < n → cut q ≡ true → c q ≡ d q) → incoming n to cut c p ≡ incoming n to cut d p
  unfolding incoming
  incoming_same c d p h = sum_ext (λ q l. elim (test (cut q)) [ inl e ↦ rw (e, h q l e) | inr e ↦ rw e ])

  -- no more comes in than is counted
  pub incoming_le : (w c : ℕ → ℕ) → Counts n to w c → (p : ℕ) → p < n → incoming n to cut c p ≤ c p
  incoming_le w c h p l = omega (arith, (cut_iff n to cut w c).0 h p l)

  module _ (out : (p : ℕ) → n ≤ p → n ≤ to p) where
    -- an exit feeds e exactly where e is the way of the cell after it
    same_exit : (r e : ℕ) → e < n → cut e ≡ true → cut r ≡ true → eqb (way n to cut (to r)) e ≡ eqb (xto n to cut r) e
    same_exit r e l ce cr = test_iff _ _ (
      λ t. let x : way n to cut (to r) ≡ e = eqb-true _ e t in eq-eqb _ e (xto_of n to cut r cr (ap cut x ∙ ce) ∙ x),
      λ t. let x : xto n to cut r ≡ e = eqb-true _ e t in eq-eqb _ e (sym (xto_says n to cut out r (omega arith)).2 ∙ x),
    )

    -- what comes in at the cells whose way is the exit e, is what the exits that feed e hold
    fed : (c : ℕ → ℕ) (e : ℕ) → e < n → cut e ≡ true
        → sum n (λ q. on (eqb (way n to cut q) e) (incoming n to cut c q)) ≡ given n (xto n to cut) (λ r. on (cut r) (c r)) e
    unfolding given
    fed c e l ce =
        sum_ext (λ q lq. ap (λ (x : ℕ). on (eqb (way n to cut q) e) x) (incoming_given c q))
        ∙ gather n to (way n to cut) (λ r. on (cut r) (c r)) e (λ r h x. omega (arith, way_past n to cut out (to r) h))
        ∙ sum_ext (λ r lr. elim (test (cut r)) [
          | inl cr ↦ ap (λ b. on b (on (cut r) (c r))) (same_exit r e l ce cr)
          | inr cr ↦ rw cr (on_zero (eqb (way n to cut (to r)) e) ∙ sym (on_zero (eqb (xto n to cut r) e)))
        ])

    -- what is no exit is fed by none
    none_fed : (c : ℕ → ℕ) (e : ℕ) → e < n → cut e ≡ false → given n (xto n to cut) c e ≡ 0
    unfolding given
    none_fed c e l ce =
        sum_none (λ q lq. on_ne (xto n to cut q) e (c q) (λ x. let s = xto_says n to cut out q (omega arith) in true≢false (sym s.1 ∙ ap cut (sym s.2 ∙ x) ∙ ce)))

    module _ (free : NoLoop n to) (w c d : ℕ → ℕ) (hc : Counts n to w c) (hd : Counts n (kept n to cut) w d) where
      -- the whole net's counts at the exits solve the exits' equation
      pub exits_counts : Counts n (xto n to cut) (λ e. on (cut e) (d e)) (λ e. on (cut e) (c e))
      unfolding way
      exits_counts e l =
          elim (test (cut e)) [
            | inl ce ↦
                rw ce
                (omega (
                  arith,
                  cut_through n to cut out free w c hc e l,
                  counts_through n (kept n to cut) (kept_out n to cut out) (kept_free n to cut out free) w d hd e l,
                  through_last n (kept n to cut) (kept_out n to cut out) (kept_free n to cut out free) (incoming n to cut c) e l (omega (arith, kept_cut n to cut e ce)),
                  fed c e l ce,
                ))
            | inr ce ↦ rw ce (omega (arith, none_fed (λ r. on (cut r) (c r)) e l ce))
          ]

      module _ (T : ℕ → ℕ) (told_counts : Counts n (xto n to cut) (λ e. on (cut e) (d e)) T) where
        -- so an exit's total is the whole net's count there
        pub totals : (e : ℕ) → e < n → cut e ≡ true → T e ≡ c e
        totals e l ce =
            counts_unique n (xto n to cut) (xto_out n to cut out) ((exits_free n to cut out (kept_free n to cut out free)).0 free) (λ e. on (cut e) (d e)) T (λ e. on (cut e) (c e)) told_counts exits_counts e l
            ∙ on_true (c e) ce

        -- finished tiles hold the whole net's counts
        pub finished : (f : ℕ → ℕ) → Counts n (kept n to cut) (λ p. w p + incoming n to cut T p) f → (p : ℕ) → p < n → f p ≡ c p
        finished f hf =
            counts_unique n (kept n to cut) (kept_out n to cut out) (kept_free n to cut out free) (λ p. w p + incoming n to cut c p) f c
            (counts_weights n (kept n to cut) (λ p. w p + incoming n to cut T p) (λ p. w p + incoming n to cut c p) f (λ p l. omega (arith, incoming_same T c p totals)) hf)
            ((cut_iff n to cut w c).0 hc)
