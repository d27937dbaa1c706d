-- The two answers of joining, from what counting on the written net says: exits feed each other round, or what comes in is gathered.
-- Assumes nothing.
use mathlib.Core.List.{List, [], ◌∷◌}
use mathlib.Core.Logic.{inl, inr}
use mathlib.Core.Path.{◌≡◌, refl, sym, ap, subst, ◌∙◌}
use Prim.Native.Nat.{ℕ, ◌<◌, ◌≤◌}
use native.Mathlib.Omega.{arith}
use lib.Dec.{eqb}
use lib.ListN.{length, replicate}
use Rattle.flow.specs.Net.{on, sum, given, NoLoop, FirstLoop}
use Rattle.flow.proofs.Lists.{get_or_past}
use Rattle.flow.proofs.Loop.{first_loop_free}
use Rattle.flow.proofs.Sum.{sum_ext}
use Rattle.flow.proofs.Totals.{counts_weights}
use Rattle.flow.proofs.Walk.{below}
use Rattle.sheet.specs.Sheet.{count_at}
use Rattle.listed_net.specs.Net.{to_at, NetLent, NetCounts}
use Rattle.listed_net.specs.Method.{Fit, Gathered}
use Rattle.listed_net.proofs.Listed.{to_at_read}
use Rattle.mosaic_read.specs.Records.{heights, widths}
use Rattle.mosaic_read.specs.Said.{borders, feeds_by, record_of, number_in, said_count, said_way, said_code}
use Rattle.mosaic_step.specs.Table.{WellFormed}
use Rattle.promise.specs.Links.UnlessSome.{refused_with, met_none}
use Rattle.promise.specs.Reply.{Reply}
use Rattle.promise.specs.Reply.Reply.{reply}
use Rattle.mosaic_join.specs.Joining.{Work, works, ends, TotalsBy, cleared, JoinExits}
use Rattle.mosaic_net.specs.Method.{Filled, pours_by, own_by}
use Rattle.mosaic_net.proofs.Poured.{feeds_beyond, comes_given, comes_most}
use Rattle.mosaic_net.proofs.Told.{borders_most, own_fits}

-- arrows that agree give the same
given_arrows : (n : ℕ) (to on_to c : ℕ → ℕ) (h : ℕ) → ((q : ℕ) → q < n → to q ≡ on_to q) → given n to c h ≡ given n on_to c h
unfolding given
given_arrows n to on_to c h same = sum_ext (λ q l. ap (λ (x : ℕ). on (eqb x h) (c q)) (same q l))

past : (list : List ℕ) (g : ℕ) → length list ≤ g → to_at list g ≡ length list
unfolding to_at
past list g l = get_or_past list g (length list) l

module _ (I J : ℕ) (bytes : List ℕ) (w : WellFormed I J bytes) where
  abbrev M : ℕ
  M = borders I J bytes

  -- ---- the net that is written down

  module _ (feeds own : List ℕ) (f : Filled M (feeds_by I J bytes) feeds M) (o : Filled M (own_by I J bytes) own M) where
    -- it is the net of the exits
    net_is : to_at feeds ≡ feeds_by I J bytes
    net_is i g = at g i
      where
        at : (g : ℕ) → to_at feeds g ≡ feeds_by I J bytes g
        at g = elim (below g M) [
          | inl l ↦ sym (to_at_read feeds g (omega (arith, f.long))) ∙ f.holds g l
          | inr l ↦ past feeds g (omega (arith, f.long)) ∙ f.long ∙ sym (feeds_beyond I J (heights bytes J) (widths bytes) (said_way bytes I J) (said_code bytes I J) g l)
        ]

    weights_are : sum (length feeds) (count_at own) ≡ sum M (own_by I J bytes)
    weights_are = ap (λ (n : ℕ). sum n (count_at own)) f.long ∙ sum_ext (λ g l. o.holds g l)

    -- what is lent to counting on it
    pub net_lent : (waiting : List ℕ) → length waiting ≡ M → NetLent feeds own waiting
    net_lent waiting long = record {
      cells_most = omega (arith, f.long, borders_most I J bytes w);
      weights_long = o.long ∙ sym f.long;
      waiting_long = long ∙ sym f.long;
      weights_fit = omega (arith, weights_are, own_fits I J bytes w);
    }

    -- ---- exits that feed each other round

    pub loop_is : {p len : ℕ} → FirstLoop (length feeds) (to_at feeds) p len → FirstLoop M (feeds_by I J bytes) p len
    loop_is s = rw (sym f.long, sym net_is) s

    pub answers_loop : {p len tile border : ℕ} {incoming : List ℕ} {work : Work} → FirstLoop (length feeds) (to_at feeds) p len
        → tile ≡ record_of bytes I J p → border ≡ number_in bytes I J p → incoming ≡ replicate M 0 → work ≡ cleared I J bytes
        → JoinExits I J bytes (ends (reply 4 (tile ∷ border ∷ len ∷ [])) incoming work)
    answers_loop {p} {len} s t b e k =
        refused_with record { place = p; len = len } (loop_is s)
        (λ i. ends (reply 4 (t i ∷ b i ∷ len ∷ [])) (e i) (k i))

    -- ---- or none do

    module _ (pours totals : List ℕ) (p : Filled M (pours_by I J bytes) pours M) (n : NetCounts feeds own totals) where
      free : NoLoop M (feeds_by I J bytes)
      free = rw (sym f.long, sym net_is) n.free

      solves : TotalsBy I J bytes (count_at totals)
      solves = counts_weights M (feeds_by I J bytes) (count_at own) _ (count_at totals) o.holds (rw (sym f.long, sym net_is) n.counts)

      -- what is gathered comes in
      gathers : (h : ℕ) → given (length pours) (to_at pours) (count_at totals) h ≡ given M (pours_by I J bytes) (count_at totals) h
      gathers h =
          ap (λ (k : ℕ). given k (to_at pours) (count_at totals) h) p.long
          ∙ given_arrows M (to_at pours) (pours_by I J bytes) (count_at totals) h (λ g l. sym (to_at_read pours g (omega (arith, p.long))) ∙ p.holds g l)

      -- and fits
      pub gathers_fit : Fit pours (count_at totals)
      gathers_fit h l =
          omega (
            arith,
            gathers h,
            comes_most I J (heights bytes J) (widths bytes) (said_way bytes I J) (said_code bytes I J) (said_count bytes I J) (count_at totals) free solves h (omega (arith, p.long)),
            own_fits I J bytes w,
          )

      pub answers_done : {incoming : List ℕ} {work : Work} → Gathered pours (count_at totals) incoming (length pours) → work ≡ cleared I J bytes → JoinExits I J bytes (ends (reply 0 []) incoming work)
      answers_done g k =
          met_none (λ v s. first_loop_free free s) record {
            totals = count_at totals;
            solve = solves;
            long = g.long ∙ p.long;
            comes = λ h l. g.holds h (omega (arith, p.long)) ∙ gathers h ∙ sym (comes_given I J (heights bytes J) (widths bytes) (said_way bytes I J) (said_code bytes I J) (count_at totals) h l);
            work_clear = k;
            said_is = refl;
          }

  -- ---- the work buffers

  -- buffers of the right lengths, cleared
  pub works_cleared : {a b c d e : ℕ} → a ≡ M → b ≡ M → c ≡ M → d ≡ M → e ≡ 128 → works (replicate a 0) (replicate b 0) (replicate c 0) (replicate d 0) (replicate e 0) ≡ cleared I J bytes
  works_cleared a b c d e i = works (replicate (a i) 0) (replicate (b i) 0) (replicate (c i) 0) (replicate (d i) 0) (replicate (e i) 0)

  pub when_cleared : {said : Reply} {incoming : List ℕ} {work : Work} → work ≡ cleared I J bytes → JoinExits I J bytes (ends said incoming (cleared I J bytes)) → JoinExits I J bytes (ends said incoming work)
  when_cleared {said} {incoming} e j = subst (λ (x : Work). JoinExits I J bytes (ends said incoming x)) (sym e) j
