-- A text is read in one way: it stops at one place, has one first line, and holds one grid of codes.
-- Assumes nothing.
use Prim.Native.Nat.{ℕ, ◌+◌, ◌*◌, ◌-◌, ◌<◌, ◌≤◌}
use mathlib.Core.Path.{◌≡◌, sym, ◌∙◌}
use mathlib.Core.List.{List, ◌++◌, append_assoc}
use native.Mathlib.Omega.{arith}
use lib.ListN.{length, take, drop, take-append-drop}
use lib.Seq.{take-take}
use Rattle.promise.specs.Links.{AtMostOne}
use Rattle.text.specs.Text.{lines, Holds, GoesOn, StopsAt, FirstLine}
use Rattle.text.proofs.Flat.{flat_same, flat_rows}
use Rattle.text.proofs.Begin.{opens_one}

-- what goes on goes on from every earlier place
pub goes_on_before : (P : List ℕ → Type 0) (text : List ℕ) (j k : ℕ) → j ≤ k → GoesOn P (take k text) → GoesOn P (take j text)
goes_on_before P text j k l g =
    let e : take k text ≡ take j text ++ drop j (take k text) = sym (rw (← take-take j k text l) (take-append-drop j (take k text))) in
    (drop j (take k text) ++ g.0, rw (e, append_assoc) at g.1)

-- a text stops at one place
pub stops_one : (P : List ℕ → Type 0) (text : List ℕ) → AtMostOne (StopsAt P text)
stops_one P text j k a b =
    let not_less : j < k → ⊥ = λ l. a.here (omega (arith, b.inside)) (goes_on_before P text (j + 1) k (omega arith) b.before) in
    let not_more : k < j → ⊥ = λ l. b.here (omega (arith, a.inside)) (goes_on_before P text (k + 1) j (omega arith) a.before) in
    omega arith

-- a text has one first line
pub first_line_one : (text : List ℕ) → AtMostOne (FirstLine text)
first_line_one text a b x y = let same = opens_one x.1 y.1 in λ i. record { rows = same.0 i; cols = same.1 i }

-- lines hold one grid of numbers
lines_one : (rows cols : ℕ) (a b : List ℕ) → 1 ≤ cols → length a ≡ rows * cols → length b ≡ rows * cols → lines rows cols a ≡ lines rows cols b → a ≡ b
lines_one rows cols a b some la lb e =
    flat_same (cols - 1) (cols - 1) a b (la ∙ sym lb) (flat_rows rows cols a some la ∙ e ∙ sym (flat_rows rows cols b some lb))

-- a text holds one grid of codes
pub holds_one : {rows cols : ℕ} {text : List ℕ} → 1 ≤ cols → AtMostOne (λ codes. Holds rows cols codes text)
holds_one {rows} {cols} some a b x y = lines_one rows cols a b some x.codes_long y.codes_long (opens_one x.opens y.opens).2
