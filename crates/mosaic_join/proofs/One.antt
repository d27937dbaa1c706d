-- The promise of joining admits one outcome only: the same reply, and the same contents of incoming and work buffers.
-- Assumes nothing.
use mathlib.Core.Bool.{cond, ◌&&◌}
use mathlib.Core.List.{List}
use mathlib.Core.Logic.{inl, inr}
use mathlib.Core.Path.{◌≡◌, refl, sym, ap, ◌∙◌}
use Prim.Native.Nat.{ℕ, ◌<◌, ◌≤◌}
use lib.Dec.{eqb}
use lib.ListN.{get_or}
use lib.Seq.{ext_get_or}
use Rattle.std.proofs.Common.{Result, Ok, Err}
use Rattle.flow.specs.Net.{on, NoLoop}
use Rattle.flow.proofs.Count.{counts_unique}
use Rattle.flow.proofs.Loop.{loop_or_free, first_loop_one}
use Rattle.flow.proofs.Sum.{sum_ext}
use Rattle.mosaic.specs.Join.{comes_in, exit_at, onto, is_land}
use Rattle.mosaic.proofs.Totals.{feeds_out}
use Rattle.mosaic_read.specs.Records.{heights, widths}
use Rattle.mosaic_read.specs.Said.{borders, feeds_by, said_way, said_code}
use Rattle.promise.specs.Links.{AtMostOne, UnlessSome}
use Rattle.promise.specs.Links.UnlessSome.{refused_with, met_none}
use Rattle.promise.specs.Reply.{Reply}
use Rattle.promise.specs.Reply.Reply.{reply}
use Rattle.promise.proofs.One.{unless_one, unless_all_one, one_value}
use Rattle.sheet.specs.Sheet.{LoopFound}
use Rattle.mosaic_join.specs.Joining.{Work, ends, incoming_by, ExitLoop, Joined, JoinExits, JoinPromise, join_reply}
use Rattle.mosaic_join.specs.declared.JoinError.{JoinError}
use Rattle.mosaic_join.specs.declared.JoinError.TheVariants.{Layout, Record, Length, Loop}

-- where what follows is known to admit one only if there are no such values
unless_some_one_none : {R W : Type 0} {Rest : R → Type 0} {Applies : W → Type 0} {x : W → R} → AtMostOne Applies → (((v : W) → Applies v → ⊥) → AtMostOne Rest) → AtMostOne (UnlessSome Applies x Rest)
unless_some_one_none {x = x} same one r s (refused_with v a e) (refused_with w b d) = e ∙ ap x (same v w a b) ∙ sym d
unless_some_one_none same one r s (refused_with v a e) (met_none n u) = absurd (n v a)
unless_some_one_none same one r s (met_none n u) (refused_with v a e) = absurd (n v a)
unless_some_one_none same one r s (met_none n u) (met_none m v) = one n r s u v

module _ (I J : ℕ) (bytes : List ℕ) where
  out : (g : ℕ) → borders I J bytes ≤ g → borders I J bytes ≤ feeds_by I J bytes g
  out = feeds_out I J (heights bytes J) (widths bytes) (said_way bytes I J) (said_code bytes I J)

  -- what refusal 4 returns is determined
  pub exit_loop_one : AtMostOne (ExitLoop I J bytes)
  exit_loop_one v w a b = let (place, len) = first_loop_one a b in λ i. record { place = place i; len = len i }

  -- where there is no first loop there is none
  pub exits_free : ((v : LoopFound) → ExitLoop I J bytes v → ⊥) → NoLoop (borders I J bytes) (feeds_by I J bytes)
  exits_free none =
      elim (loop_or_free (borders I J bytes) (feeds_by I J bytes) out) [
        | inl f ↦ f
        | inr s ↦ absurd (none record { place = s.0; len = _ } s.1)
      ]

  -- what comes in is determined by the exits' totals
  comes_ext : (T U : ℕ → ℕ) → ((g : ℕ) → g < borders I J bytes → T g ≡ U g) → (h : ℕ) → incoming_by I J bytes T h ≡ incoming_by I J bytes U h
  unfolding comes_in
  comes_ext T U same h = sum_ext (λ g l. ap (on (exit_at I J (heights bytes J) (widths bytes) (said_way bytes I J) g && (eqb (onto I J (heights bytes J) (widths bytes) (said_code bytes I J) g) h && is_land (said_way bytes I J) (said_code bytes I J) h))) (same g l))

  -- totals have one solution where exits do not feed each other round
  pub joined_one : NoLoop (borders I J bytes) (feeds_by I J bytes) → AtMostOne (Joined I J bytes)
  joined_one free e f a b =
      let totals : (g : ℕ) → g < borders I J bytes → a.totals g ≡ b.totals g =
      counts_unique (borders I J bytes) (feeds_by I J bytes) out free _ a.totals b.totals a.solve b.solve in
      let incoming : e.incoming ≡ f.incoming =
      ext_get_or 0 e.incoming f.incoming (a.long ∙ sym b.long) (λ h l.
      let k : h < borders I J bytes = rw a.long at l in
      a.comes h k ∙ comes_ext a.totals b.totals totals h ∙ sym (b.comes h k)) in
      let said : e.said ≡ f.said = a.said_is ∙ sym b.said_is in
      let work : e.work ≡ f.work = a.work_clear ∙ sym b.work_clear in
      λ i. record { said = said i; incoming = incoming i; work = work i }

  pub join_exits_one : AtMostOne (JoinExits I J bytes)
  join_exits_one = unless_some_one_none exit_loop_one (λ none. joined_one (exits_free none))

-- ---- the paper's numbers and values tell the answers apart

answer_of : Reply → Result Unit JoinError
answer_of (reply n vs) =
    cond (eqb n 0) (Ok tt)
    (Err (cond (eqb n 2) Length (cond (eqb n 4) (Loop (get_or vs 0 0) (get_or vs 1 0) (get_or vs 2 0)) (cond (eqb n 8) (Record (get_or vs 0 0)) (Layout (get_or vs 0 0))))))

answer_back : (r : Result Unit JoinError) → answer_of (join_reply r) ≡ r
unfolding answer_of
answer_back (Ok done) = refl
answer_back (Err (Layout byte)) = refl
answer_back (Err (Record byte)) = refl
answer_back (Err Length) = refl
answer_back (Err (Loop tile border exits)) = refl

-- an answer with the buffers that it leaves
pub record Answer : Type 0 where
  pub answer : Result Unit JoinError
  pub incoming_after : List ℕ
  pub work_after : Work

module _ (I J : ℕ) (bytes incoming : List ℕ) (work : Work) where
  pub join_one : AtMostOne (JoinPromise I J bytes incoming work)
  join_one = unless_one (unless_all_one (unless_one (unless_one (join_exits_one I J bytes))))

  -- and of the answer itself
  pub join_answer_one : AtMostOne (λ (a : Answer). JoinPromise I J bytes incoming work (ends (join_reply a.answer) a.incoming_after a.work_after))
  join_answer_one =
      one_value (λ a. ends (join_reply a.answer) a.incoming_after a.work_after)
      (λ e. record { answer = answer_of e.said; incoming_after = e.incoming; work_after = e.work })
      (λ a i. record { answer = answer_back a.answer i; incoming_after = a.incoming_after; work_after = a.work_after })
      join_one
