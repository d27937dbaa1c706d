-- What the functions promise each other and the crates that call them. Nothing here is cited by a public promise.
-- Assumes nothing.
use Rattle.std.specs.Prelude.{Bool, true, false, List, Option, Some, IfSome, ◌≡◌, ℕ, ◌<◌, ◌≤◌, eqb, length}
use Rattle.flow.specs.Net.{given}
use Rattle.flow.proofs.HandOn.{Holds, GiversDone, LoopsOpen, open_cells, open_givers, open_sum}
use Rattle.sheet.specs.Sheet.{count_at}
use Rattle.listed_net.specs.Net.{to_at}

-- ---- gathering

-- a function that is asked for what a cell holds tells it
abbrev pub Tells : ℕ → (ℕ → ℕ → Type 0) → (ℕ → ℕ) → Type 0
Tells n Told held = (q x : ℕ) → q < n → Told q x → x ≡ held q

-- what comes to a cell fits 32 bits
abbrev pub Fit : List ℕ → (ℕ → ℕ) → Type 0
Fit to held = (p : ℕ) → p < length to → given (length to) (to_at to) held p < 4294967296

-- each of the sums is what the first k cells hold whose water goes there
pub record Gathered (to : List ℕ) (held : ℕ → ℕ) (sums : List ℕ) (k : ℕ) : Type 0 where
  pub long : length sums ≡ length to
  pub holds : (p : ℕ) → p < length to → count_at sums p ≡ given k (to_at to) held p

-- ---- handing on

-- a cell that has handed on what it holds is marked by this number, in place of the number of the givers that it waits for
abbrev pub handed_on : ℕ
handed_on = 4294967295

abbrev pub marked : (ℕ → ℕ) → ℕ → Bool
marked g p = eqb (g p) handed_on

-- of a net with totals c, where g says for how many givers each cell waits
pub record Handing (n : ℕ) (to c g : ℕ → ℕ) : Type 0 where
  pub waits : (p : ℕ) → p < n → marked g p ≡ false → g p ≡ open_givers n to (marked g) p
  pub before : GiversDone n to (marked g)
  pub loops : LoopsOpen n to (marked g)
  pub light : open_sum n c (marked g) < 4294967296

-- the same of lists
pub record Half (to totals waiting : List ℕ) : Type 0 where
  pub cells_most : length to ≤ 1000000
  pub totals_long : length totals ≡ length to
  pub waiting_long : length waiting ≡ length to
  pub handing : Handing (length to) (to_at to) (count_at totals) (count_at waiting)

-- what is to hand on next, if a cell is, waits for no giver
abbrev pub Ready : (to waiting : List ℕ) → Option ℕ → Type 0
Ready to waiting next = IfSome next (λ t. (t < length to) × (count_at waiting t ≡ 0))

-- no cell before place k waits for no giver, but for the next
abbrev pub PassedBut : (to waiting : List ℕ) → ℕ → Option ℕ → Type 0
PassedBut to waiting k next = (p : ℕ) → p < length to → p < k → (Some p ≡ next → ⊥) → count_at waiting p ≡ 0 → ⊥

-- no cell before place k waits for no giver
abbrev pub Passed : (to waiting : List ℕ) → ℕ → Type 0
Passed to waiting k = (p : ℕ) → p < length to → p < k → count_at waiting p ≡ 0 → ⊥

-- each cell holds its weight and what was handed to it
abbrev pub Weighed : (to totals waiting : List ℕ) → (ℕ → ℕ) → Type 0
Weighed to totals waiting w = Holds (length to) (to_at to) w (count_at totals) (marked (count_at waiting))

-- from totals c and numbers g, with t to hand on, to totals d and numbers h, with u to hand on
pub record Moved (to c g d h : List ℕ) (t u : Option ℕ) : Type 0 where
  pub half : Half to d h
  pub ready : Ready to h u
  pub weighed : (w : ℕ → ℕ) → Weighed to c g w → Weighed to d h w
  pub passed : (k : ℕ) → PassedBut to g k t → PassedBut to h k u

-- the scan is at place k: what is handed on is right, and whatever could be, of the cells before, is
pub record Scanned (to c g d h : List ℕ) (k : ℕ) : Type 0 where
  pub half : Half to d h
  pub weighed : (w : ℕ → ℕ) → Weighed to c g w → Weighed to d h w
  pub passed : Passed to h k

-- how many cells have not handed on
unfoldable pub left : (to waiting : List ℕ) → ℕ
left to waiting = open_cells (length to) (marked (count_at waiting))

-- cell q has handed on
abbrev pub IsDone : List ℕ → ℕ → Type 0
IsDone waiting q = marked (count_at waiting) q ≡ true
