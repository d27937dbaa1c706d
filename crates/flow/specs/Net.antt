-- A net: n cells, and for each cell p the cell `to p` that its water goes to; a number that is not below n says that it goes to no cell.
-- A weight w says what each cell itself adds. Counts and loops are defined here once, for every net and every weight. A number that is no cell leads to no
-- cell again: each law that needs this asks it, and each net of the crates above has it.
-- Assumes nothing.
use Rattle.std.specs.Prelude.{◌≡◌, Bool, true, false, ◌||◌, ◌&&◌, ℕ, zero, suc, ◌+◌, ◌<◌, eqb}

-- x where the test passes, and 0 where it fails
abbrev pub on : Bool → ℕ → ℕ
on true x = x
on false x = 0

-- f 0 + f 1 + .. + f (n - 1)
unfoldable pub sum : ℕ → (ℕ → ℕ) → ℕ
sum zero f = 0
sum (suc n) f = sum n f + f n

-- how many of the cells pass a test
abbrev pub number : ℕ → (ℕ → Bool) → ℕ
number n passes = sum n (λ q. on (passes q) 1)

-- ---- counts: document 002, equation 1

-- what the cells whose water goes to p hold together
unfoldable pub given : ℕ → (ℕ → ℕ) → (ℕ → ℕ) → ℕ → ℕ
given n to c p = sum n (λ q. on (eqb (to q) p) (c q))

-- the equation at cell p: its count is what it adds itself, and the counts of the cells whose water goes to it
abbrev pub CountsAt : ℕ → (ℕ → ℕ) → (ℕ → ℕ) → (ℕ → ℕ) → ℕ → Type 0
CountsAt n to w c p = c p ≡ w p + given n to c p

-- and at every cell
abbrev pub Counts : ℕ → (ℕ → ℕ) → (ℕ → ℕ) → (ℕ → ℕ) → Type 0
Counts n to w c = (p : ℕ) → p < n → CountsAt n to w c p

-- ---- downstream

-- k arrows on from p
unfoldable pub steps : (ℕ → ℕ) → ℕ → ℕ → ℕ
steps to zero p = p
steps to (suc k) p = steps to k (to p)

-- q is downstream of p: reached by following arrows from p, one step or more
abbrev pub Down : (ℕ → ℕ) → ℕ → ℕ → Type 0
Down to p q = (k : ℕ) × (steps to (suc k) p ≡ q)

-- ---- loops

-- a loop: some cells, each downstream of itself and of every other, and with no further such cell
pub record Loop (n : ℕ) (to : ℕ → ℕ) (In : ℕ → Type 0) : Type 0 where
  pub some : (p : ℕ) × In p
  pub cells : (p : ℕ) → In p → p < n
  pub round : (p q : ℕ) → In p → In q → Down to p q
  pub whole : (q : ℕ) → q < n → Down to q q → ((p : ℕ) → In p → Down to p q × Down to q p) → In q

-- p lies on a loop: it is a cell that is downstream of itself
abbrev pub OnLoop : ℕ → (ℕ → ℕ) → ℕ → Type 0
OnLoop n to p = (p < n) × Down to p p

-- no cell lies on a loop
abbrev pub NoLoop : ℕ → (ℕ → ℕ) → Type 0
NoLoop n to = (p : ℕ) → p < n → Down to p p → ⊥

-- a test: q is one of the first k cells downstream of p
unfoldable pub down_in : (ℕ → ℕ) → ℕ → ℕ → ℕ → Bool
down_in to zero p q = false
down_in to (suc k) p q = let r = down_in to k (to p) q in eqb (to p) q || r

-- a test that q is downstream of p: on a net of n cells it is met within n steps or never (`downb_iff`, proofs/Walk.antt)
unfoldable pub downb : ℕ → (ℕ → ℕ) → ℕ → ℕ → Bool
downb n to p q = down_in to n p q

-- the length of the loop that p lies on: how many cells are downstream of p with p downstream of them
unfoldable pub loop_length : ℕ → (ℕ → ℕ) → ℕ → ℕ
loop_length n to p = number n (λ q. downb n to p q && downb n to q p)

-- p is the smallest cell on any loop, and its loop has `len` cells
pub record FirstLoop (n : ℕ) (to : ℕ → ℕ) (p len : ℕ) : Type 0 where
  pub here : OnLoop n to p
  pub smallest : (q : ℕ) → q < p → OnLoop n to q → ⊥
  pub length : len ≡ loop_length n to p
