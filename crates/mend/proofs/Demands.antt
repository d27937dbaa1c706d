-- What mending promises, in the words of the demand.
-- Assumes nothing.
use mathlib.Core.Bool.{false}
use mathlib.Core.List.{List, []}
use mathlib.Core.Logic.{inl, inr, ◌↔◌}
use mathlib.Core.Path.{◌≡◌, refl, sym, ap, ◌∙◌}
use Prim.Native.Nat.{ℕ, ◌*◌, ◌<◌}
use native.Mathlib.Omega.{arith}
use lib.ListN.{length, set, length-set}
use lib.Seq.{get_or-set_other, set-get_or}
use Rattle.promise.specs.Links.Unless.{met}
use Rattle.promise.specs.Links.UnlessAll.{met_all}
use Rattle.promise.specs.Links.UnlessSome.{refused_with, met_none}
use Rattle.promise.specs.Reply.{number_of}
use Rattle.promise.specs.Reply.Reply.{reply}
use Rattle.promise.proofs.Apart.{other, unless_ok, unless_all_ok}
use Rattle.promise.proofs.Each.{unless_each, unless_all_each, unless_some_each}
use Rattle.flow.specs.Net.{downb}
use Rattle.flow.proofs.Alike.{differs_only}
use Rattle.flow.proofs.Loop.{loop_or_free, first_loop_free}
use Rattle.flow.proofs.Sum.{test, same}
use Rattle.flow.proofs.Walk.{downb_iff}
use Rattle.sheet.specs.Compass.{is_code}
use Rattle.sheet.specs.Sheet.{code_at, dest_of, unit, count_at, Downstream, SheetCounts, SheetNoLoop, SheetOnLoop}
use Rattle.sheet.proofs.Change.{changed_alike, changed_unit, changed_code}
use Rattle.sheet.proofs.Dest.{dest_beyond}
use Rattle.sheet.proofs.Passes.{counts_no_loop}
use Rattle.checking.specs.Check.{Right}
use Rattle.mend.specs.Mend.{MendPromise, MendOutcome, MendChange, Mended, Mendable, changed, ends}
use Rattle.sheet.proofs.Unique.{counts_one}
use Rattle.mend.proofs.One.{mend_one}

module _ (rows cols : ℕ) (grid counts : List ℕ) (place code : ℕ) where
  mendable_long : Mendable rows cols grid counts place code → length (changed grid place code) ≡ rows * cols
  mendable_long m = simp length-set m.right.lengths.grid_long

  -- the chain put together again
  promised : {e : MendOutcome} → Mendable rows cols grid counts place code → MendChange rows cols grid counts place code e → MendPromise rows cols grid counts place code e
  promised m rest = met m.right.shape (met m.right.lengths (met_all m.right.codes (met_all m.right.equation (met m.inside (met m.code_ok rest)))))

  module _ (e : MendOutcome) (promise : MendPromise rows cols grid counts place code e) where
    changes : Mendable rows cols grid counts place code → MendChange rows cols grid counts place code e
    changes m =
        unless_ok (unless_ok (unless_all_ok (unless_all_ok (unless_ok (unless_ok promise m.right.shape) m.right.lengths) m.right.codes) m.right.equation) m.inside) m.code_ok

    passed : number_of e.said ≡ 0 → Mendable rows cols grid counts place code × Mended rows cols grid place code e
    passed =
        let P : MendOutcome → Type 0 = λ e. number_of e.said ≡ 0 → Mendable rows cols grid counts place code × Mended rows cols grid place code e in
        unless_each P (λ n. other refl) (λ a. unless_each P (λ n. other refl) (λ b. unless_all_each P (λ p f. other refl) (λ c. unless_all_each P (λ p f. other refl) (λ d.
        unless_each P (λ n. other refl) (λ i. unless_each P (λ n. other refl) (λ k. unless_some_each P (λ v w. other refl) (λ n s z.
        (record { right = record { shape = a; lengths = b; codes = c; equation = d }; inside = i; code_ok = k }, s)))))))) promise

    -- ---- done

    -- done is said exactly when the lent sheet is right, place and code are right, and the changed grid has no loop
    pub mend_done_iff : (number_of e.said ≡ 0) ↔ (Mendable rows cols grid counts place code × SheetNoLoop rows cols (changed grid place code))
    mend_done_iff = (
      λ z. let (m, s) = passed z in (m, counts_no_loop rows cols (changed grid place code) (mendable_long m) e.counts s.equation),
      λ (m, free). elim (changes m) [
        | refused_with v a d ↦ absurd (first_loop_free free a)
        | met_none n s ↦ ap number_of s.said_is
      ],
    )

    module _ (done : number_of e.said ≡ 0) where
      -- THE GRID HOLDS THE NEW CODE at the place, and elsewhere what it held
      pub mended_grid : e.grid ≡ changed grid place code
      mended_grid = (passed done).1.stored

      pub mended_code : code_at e.grid place ≡ code
      mended_code =
          let (m, s) = passed done in
          ap (λ (g : List ℕ). code_at g place) s.stored ∙ changed_code rows cols grid place code m.inside m.right.lengths.grid_long

      -- THE MENDED COUNTS EQUAL THOSE OF THE CHANGED GRID COUNTED AFRESH: whatever satisfies equation 1 on the changed grid
      pub mended_afresh : (fresh : List ℕ) → length fresh ≡ rows * cols → SheetCounts rows cols (changed grid place code) fresh → e.counts ≡ fresh
      mended_afresh fresh long eq =
          let (m, s) = passed done in
          counts_one rows cols (changed grid place code) e.counts fresh (mendable_long m) s.long long s.equation eq

      -- NO COUNT DIFFERS except at that cell and at cells downstream of it, before the change or after
      pub mended_only : (p : ℕ) → p < rows * cols → (p ≡ place → ⊥) → (Downstream rows cols grid place p → ⊥) → (Downstream rows cols (changed grid place code) place p → ⊥)
          → count_at e.counts p ≡ count_at counts p
      mended_only p l off before after =
          let (m, s) = passed done in
          let long = m.right.lengths.grid_long in
          let out = dest_beyond rows cols grid long in
          let out' = dest_beyond rows cols (changed grid place code) (mendable_long m) in
          let above : downb (rows * cols) (dest_of rows cols grid) place p ≡ false = elim (test (downb (rows * cols) (dest_of rows cols grid) place p)) [
            | inl t ↦ absurd (before (l, (downb_iff (rows * cols) (dest_of rows cols grid) out place p l).0 t))
            | inr t ↦ t
          ] in
          let above' : downb (rows * cols) (dest_of rows cols (changed grid place code)) place p ≡ false = elim (test (downb (rows * cols) (dest_of rows cols (changed grid place code)) place p)) [
            | inl t ↦ absurd (after (l, (downb_iff (rows * cols) (dest_of rows cols (changed grid place code)) out' place p l).0 t))
            | inr t ↦ t
          ] in
          sym (differs_only (rows * cols) place (dest_of rows cols grid) (dest_of rows cols (changed grid place code)) out out' (changed_alike rows cols grid place code)
          (counts_no_loop rows cols grid long counts m.right.equation) (counts_no_loop rows cols (changed grid place code) (mendable_long m) e.counts s.equation)
          (unit grid) (unit (changed grid place code)) (changed_unit rows cols grid place code) (count_at counts) (count_at e.counts) m.right.equation s.equation p l off above above')

      -- THE MENDED SHEET passes a check, and so can be mended again
      pub mended_right : Right rows cols e.grid e.counts
      mended_right =
          let (m, s) = passed done in
          rw s.stored record {
            shape = m.right.shape;
            lengths = record { grid_long = mendable_long m; counts_long = s.long };
            codes = λ q l. elim (same q place) [
              | inl d ↦ rw d (ap is_code (changed_code rows cols grid place code m.inside m.right.lengths.grid_long) ∙ m.code_ok)
              | inr d ↦ ap is_code (get_or-set_other grid place q code 255 d) ∙ m.right.codes q l
            ];
            equation = s.equation;
          }

    -- ---- refused

    -- REFUSED FOR A LOOP EXACTLY WHEN THE CHANGE WOULD CLOSE ONE, where no refusal before that applies
    pub mend_loop_iff : Mendable rows cols grid counts place code → (number_of e.said ≡ 4) ↔ ((p : ℕ) × SheetOnLoop rows cols (changed grid place code) p)
    mend_loop_iff m = (
      λ z. elim (changes m) [
        | refused_with v a d ↦ (v.place, a.here)
        | met_none n s ↦ absurd (let k : number_of e.said ≡ 0 = ap number_of s.said_is in omega arith)
      ],
      λ (p, on). elim (changes m) [
        | refused_with v a d ↦ ap (λ (y : MendOutcome). number_of y.said) d
        | met_none n s ↦ absurd (elim (loop_or_free (rows * cols) (dest_of rows cols (changed grid place code)) (dest_beyond rows cols (changed grid place code) (mendable_long m))) [
          | inl free ↦ free p on.0 on.1
          | inr first ↦ n (record { place = first.0; len = _ }) first.1
        ])
      ],
    )

    -- A REFUSAL leaves grid and counts as they were lent
    pub refused_as_lent : (number_of e.said ≡ 0 → ⊥) → (e.grid ≡ grid) × (e.counts ≡ counts)
    refused_as_lent =
        let P : MendOutcome → Type 0 = λ e. (number_of e.said ≡ 0 → ⊥) → (e.grid ≡ grid) × (e.counts ≡ counts) in
        unless_each P (λ n h. (refl, refl)) (λ a. unless_each P (λ n h. (refl, refl)) (λ b. unless_all_each P (λ p f h. (refl, refl)) (λ c.
        unless_all_each P (λ p f h. (refl, refl)) (λ d. unless_each P (λ n h. (refl, refl)) (λ i. unless_each P (λ n h. (refl, refl)) (λ k.
        unless_some_each P (λ v w h. (refl, refl)) (λ n s h. absurd (h (ap number_of s.said_is))))))))) promise

    -- ---- the code already there

    -- MENDING WITH THE CODE ALREADY THERE is done and alters neither grid nor counts
    pub mend_same_code : Mendable rows cols grid counts place code → code ≡ code_at grid place → e ≡ ends (reply 0 []) grid counts
    mend_same_code m there =
        let stays : changed grid place code ≡ grid = ap (λ (x : ℕ). set grid place x) there ∙ set-get_or grid place 255 in
        let eq : SheetCounts rows cols (changed grid place code) counts = rw stays m.right.equation in
        let free : SheetNoLoop rows cols (changed grid place code) = counts_no_loop rows cols (changed grid place code) (mendable_long m) counts eq in
        mend_one rows cols grid counts place code _ _ promise (promised m (met_none (λ v first. first_loop_free free first) record {
          stored = sym stays;
          long = m.right.lengths.counts_long;
          equation = eq;
          said_is = refl;
        }))
