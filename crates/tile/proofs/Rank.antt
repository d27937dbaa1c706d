-- Numbers that pass a test, numbered in order: how many stand before each, and which has how many before it. By counting alone.
-- Assumes nothing.
use mathlib.Core.Path.{◌≡◌}
use mathlib.Core.Bool.{Bool, true, false}
use mathlib.Core.Logic.{inl, inr}
use Prim.Native.Nat.{ℕ, zero, suc, ◌+◌, ◌≤◌, ◌<◌}
use native.Mathlib.Omega.{arith}
use borrow.Author.Tests.{lt-ltb, le-ltb}
use Rattle.flow.specs.Net.{on, sum, number}
use Rattle.flow.proofs.Sum.{test, on_true, on_false, sum_suc}
use Rattle.flow.proofs.Walk.{below}
use Rattle.tile.specs.Border.{nth}

module _ (t : ℕ → Bool) where
  number_suc : (n : ℕ) → number (suc n) t ≡ number n t + on (t n) 1
  number_suc n = sum_suc n (λ q. on (t q) 1)

  -- a number that passes is one more
  pub number_pass : (n : ℕ) → t n ≡ true → number (suc n) t ≡ number n t + 1
  number_pass n e = omega (arith, number_suc n, on_true 1 e)

  -- and one that fails is none
  pub number_fail : (n : ℕ) → t n ≡ false → number (suc n) t ≡ number n t
  number_fail n e = omega (arith, number_suc n, on_false 1 e)

  -- further on there are not fewer
  pub number_mono : (m n : ℕ) → m ≤ n → number m t ≤ number n t
  unfolding sum
  number_mono m zero l = let e : m ≡ 0 = omega arith in rw e (omega arith)
  number_mono m (suc n) l =
      elim (below m (suc n)) [
        | inl k ↦ omega (arith, number_mono m n (omega arith), number_suc n)
        | inr k ↦ (let e : m ≡ suc n = omega arith in rw e (omega arith))
      ]

  -- not more numbers pass than there are

  -- a number that passes has fewer before it than any later number
  pub rank_rises : (p q : ℕ) → p < q → t p ≡ true → number p t < number q t
  rank_rises p q l e = omega (arith, number_pass p e, number_mono (suc p) q l)

  -- so no two have as many before them
  pub rank_once : (p q : ℕ) → t p ≡ true → t q ≡ true → number p t ≡ number q t → p ≡ q
  rank_once p q ep eq e =
      elim (below p q) [
        | inl l ↦ absurd (omega (arith, rank_rises p q l ep))
        | inr l ↦ elim (below q p) [ inl k ↦ absurd (omega (arith, rank_rises q p k eq)) | inr k ↦ omega arith ]
      ]

  -- each clause of `nth`
  nth_before : (n b : ℕ) → b < number n t → nth (suc n) t b ≡ nth n t b
  unfolding nth
  nth_before n b l = rw (lt-ltb b (number n t) l)

  nth_last : (n b : ℕ) → number n t ≤ b → nth (suc n) t b ≡ n
  unfolding nth
  nth_last n b l = rw (le-ltb b (number n t) l)

  -- the number that is found is below n, passes, and has b passing numbers before it
  pub nth_is : (n b : ℕ) → b < number n t → (nth n t b < n) × (t (nth n t b) ≡ true) × (number (nth n t b) t ≡ b)
  unfolding sum
  nth_is zero b l = absurd (omega arith)
  nth_is (suc n) b l =
      elim (below b (number n t)) [
        | inl k ↦ (let (i, j, e) = nth_is n b k in rw (nth_before n b k) (omega arith, j, e))
        | inr k ↦ elim (test (t n)) [
          | inl e ↦ rw (nth_last n b k) (omega arith, e, omega (arith, number_pass n e))
          | inr e ↦ absurd (omega (arith, number_fail n e))
        ]
      ]

  -- and it is the only one
  pub nth_of : (n p : ℕ) → p < n → t p ≡ true → nth n t (number p t) ≡ p
  nth_of n p l e =
      let (i, j, s) = nth_is n (number p t) (rank_rises p n l e) in
      rank_once (nth n t (number p t)) p j e s
