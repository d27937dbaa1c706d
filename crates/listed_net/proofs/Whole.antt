-- Counting on a whole net: what is known before the scan, and what its end says.
-- Assumes nothing.
use Rattle.std.proofs.Common.{false, List, inl, inr, ◌≡◌, sym, ◌∙◌, ℕ, ◌<◌, ◌≤◌, arith, eqb, length}
use Rattle.std.proofs.lemmas.Bool.{ne_eqb, true≢false}
use Rattle.flow.specs.Net.{sum, given, loop_length, OnLoop, FirstLoop}
use Rattle.flow.proofs.HandOn.{open_givers, open_sum, none_done, all_done, open_iff_loop, all_done_free, first_open}
use Rattle.flow.proofs.Sum.{test, sum_ext}
use Rattle.promise.specs.Links.{FirstNot}
use Rattle.sheet.specs.Sheet.{count_at}
use Rattle.sheet.proofs.Gather.{number_le}
use Rattle.listed_net.specs.Net.{to_at, NetCounts}
use Rattle.listed_net.specs.Method.{handed_on, marked, Gathered, Half, Scanned, Weighed, IsDone}

-- ---- before the scan: each cell waits for its givers

-- the arrows that end at a cell are its givers, of which each counts 1
pub givers_given : (n : ℕ) (to : ℕ → ℕ) (p : ℕ) → given n to (λ q. 1) p ≤ n
unfolding given
givers_given n to p = number_le n (λ q. eqb (to q) p)

module _ (to c g : List ℕ) (most : length to ≤ 1000000) (s : Gathered to (λ q. 1) g (length to)) where
  -- no cell has handed on
  none_marked : (p : ℕ) → p < length to → marked (count_at g) p ≡ false
  none_marked p l = ne_eqb (count_at g p) handed_on (λ e. omega (arith, s.holds p l, givers_given (length to) (to_at to) p))

  all_open : (p : ℕ) → given (length to) (to_at to) (λ q. 1) p ≡ open_givers (length to) (to_at to) (marked (count_at g)) p
  unfolding given open_givers
  all_open p = sum_ext (λ q l. rw (none_marked q l))

  all_held : sum (length to) (count_at c) ≡ open_sum (length to) (count_at c) (marked (count_at g))
  unfolding open_sum
  all_held = sum_ext (λ q l. rw (none_marked q l))

  pub half_start : length c ≡ length to → sum (length to) (count_at c) < 4294967296 → Half to c g
  half_start long fit = record {
    cells_most = most;
    totals_long = long;
    waiting_long = s.long;
    handing = record {
      waits = λ p l o. s.holds p l ∙ all_open p;
      before = λ p q l lq e h. absurd (true≢false (sym h ∙ none_marked p l));
      loops = λ p o. none_marked p o.0;
      light = omega (arith, all_held);
    };
  }

  -- each cell holds its weight
  pub weighed_start : Weighed to c g (count_at c)
  weighed_start = none_done (length to) (to_at to) (count_at c) (marked (count_at g)) none_marked

-- ---- after the scan

module _ {to c g d h : List ℕ} (s : Scanned to c g d h (length to)) where
  -- each cell that has not handed on waits for one that has not
  stuck : (p : ℕ) → p < length to → marked (count_at h) p ≡ false → open_givers (length to) (to_at to) (marked (count_at h)) p ≡ 0 → ⊥
  stuck p l o e = s.passed p l l (s.half.handing.waits p l o ∙ e)

  -- all have handed on: the totals are the counts
  pub whole_done : Weighed to c g (count_at c) → ((q : ℕ) → q < length h → IsDone h q) → NetCounts to c d
  whole_done start all =
      let each : (q : ℕ) → q < length to → IsDone h q = λ q l. all q (omega (arith, s.half.waiting_long)) in
      record {
        free = all_done_free (length to) (to_at to) (marked (count_at h)) s.half.handing.loops stuck each;
        counts = all_done (length to) (to_at to) (count_at c) (count_at d) (marked (count_at h)) (s.weighed (count_at c) start) each;
      }

  -- the first that has not is the first on a loop
  module _ {p : ℕ} (first : FirstNot (length h) (IsDone h) p) where
    p_open : marked (count_at h) p ≡ false
    p_open = elim (test (marked (count_at h) p)) [ inl t ↦ absurd (first.here t) | inr t ↦ t ]

    p_inside : p < length to
    p_inside = omega (arith, first.inside, s.half.waiting_long)

    pub whole_on_loop : OnLoop (length to) (to_at to) p
    whole_on_loop = (open_iff_loop (length to) (to_at to) (marked (count_at h)) s.half.handing.loops stuck p p_inside).0 p_open

    pub whole_loop : {len : ℕ} → loop_length (length to) (to_at to) p ≡ len → FirstLoop (length to) (to_at to) p len
    whole_loop e = rw (← e) (first_open (length to) (to_at to) (marked (count_at h)) s.half.handing.loops stuck p p_inside p_open first.before)
