-- One record part by part, for each way through the code that reads it; and a record that is well formed has all its parts so.
-- Assumes nothing.
use mathlib.Core.List.{List, [], ◌∷◌}
use mathlib.Core.Path.{◌≡◌, sym, ap, ap₂, ◌∙◌, subst}
use Prim.Native.Nat.{ℕ, zero, suc, ◌+◌, ◌*◌, ◌<◌}
use native.Mathlib.Omega.{arith}
use borrow.Author.Count.{below_more}
use Rattle.promise.specs.Reply.Reply.{reply}
use Rattle.mosaic_read.specs.Records.{start_of, rows_of, cols_of, borders_of, SidesOk, PlacedOk, CountsOk, WaysOk, PartOk, RecordOk}
use Rattle.mosaic_read.specs.Method.{Whole, WholeBefore, Reached, FirstFault}
use Rattle.mosaic_read.specs.BorderRecord.{IsAt, RecordCountsOk, RecordWaysOk}
use Rattle.mosaic_read.specs.declared.ReadError.TheVariants.{Record, Layout}
use Rattle.mosaic_read.specs.declared.record.BorderRecord.{BorderRecord}
use Rattle.mosaic_read.proofs.Sides.{rows_are, cols_are, borders_are}
use Rattle.mosaic_read.proofs.Starts.{start_next}

-- a list and numbers that are equal have what the others have
same5 : {a a' : List ℕ} {b c d e b' c' d' e' : ℕ} (P : List ℕ → ℕ → ℕ → ℕ → ℕ → Type 0) → a ≡ a' → b ≡ b' → c ≡ c' → d ≡ d' → e ≡ e' → P a b c d e → P a' b' c' d' e'
same5 {a} {a'} {b} {c} {d} {e} {b'} {c'} {d'} {e'} P i j k l m x =
    subst (λ (y : ℕ). P a' b' c' d' y) m (subst (λ (y : ℕ). P a' b' c' y e) l (subst (λ (y : ℕ). P a' b' y d e) k (subst (λ (y : ℕ). P a' y c d e) j (subst (λ (y : List ℕ). P y b c d e) i x))))

module _ {bytes : List ℕ} {J t : ℕ} where
  -- ---- well formed in all parts

  pub record_parts : RecordOk bytes J t → (part : ℕ) → PartOk bytes J t part
  record_parts r zero = r.sides
  record_parts r (suc zero) = r.placed
  record_parts r (suc (suc zero)) = r.counts
  record_parts r (suc (suc (suc more))) = r.ways

  pub parts_record : ((part : ℕ) → part < 4 → PartOk bytes J t part) → RecordOk bytes J t
  parts_record all = record { sides = all 0 (omega arith); placed = all 1 (omega arith); counts = all 2 (omega arith); ways = all 3 (omega arith) }

  pub record_whole : RecordOk bytes J t → Whole bytes t
  record_whole r = record { shape = r.sides.shape; inside = omega (arith, start_next bytes t, r.ways.inside) }

  pub whole_before : ((q : ℕ) → q < t → RecordOk bytes J q) → WholeBefore bytes t
  whole_before ok q l = record { shape = (ok q l).sides.shape; inside = omega (arith, start_next bytes q, (ok q l).ways.inside) }

  -- ---- each way through reading it

  module _ {o above left : ℕ} (r : Reached bytes J t o above left) where
    first0 : (q : ℕ) → q < 0 → PartOk bytes J t q
    first0 q l = absurd (omega arith)

    sides_there : SidesOk bytes o → SidesOk bytes (start_of bytes t)
    sides_there s = subst (SidesOk bytes) r.start s

    first1 : SidesOk bytes o → (q : ℕ) → q < 1 → PartOk bytes J t q
    first1 s = below_more (PartOk bytes J t) 0 first0 (sides_there s)

    pub placed_fault : SidesOk bytes o → (PlacedOk bytes J t → ⊥) → FirstFault bytes J t (Layout o)
    placed_fault s n = record {
      part = 1;
      first = record { inside = omega arith; here = n; before = first1 s };
      told = ap (λ (x : ℕ). reply 9 (x ∷ [])) r.start;
    }

    -- of the record that is read there
    module _ (s : SidesOk bytes o) (p : PlacedOk bytes J t) (b : BorderRecord) (at : IsAt bytes o b) where
      first2 : (q : ℕ) → q < 2 → PartOk bytes J t q
      first2 = below_more (PartOk bytes J t) 1 (first1 s) p

      -- what holds of it holds of record t
      there : (P : List ℕ → ℕ → ℕ → ℕ → ℕ → Type 0) → P b.bytes.now b.start b.tile.rows b.tile.cols b.borders → P bytes (start_of bytes t) (rows_of bytes t) (cols_of bytes t) (borders_of bytes t)
      there P x = same5 P at.bytes_are (at.start_is ∙ r.start) (rows_are at t r.start) (cols_are at t r.start) (borders_are at t r.start) x

      back : (P : List ℕ → ℕ → ℕ → ℕ → ℕ → Type 0) → P bytes (start_of bytes t) (rows_of bytes t) (cols_of bytes t) (borders_of bytes t) → P b.bytes.now b.start b.tile.rows b.tile.cols b.borders
      back P x = same5 P (sym at.bytes_are) (sym (at.start_is ∙ r.start)) (sym (rows_are at t r.start)) (sym (cols_are at t r.start)) (sym (borders_are at t r.start)) x

      pub counts_fault : (RecordCountsOk b → ⊥) → FirstFault bytes J t (Record (o + 11))
      counts_fault n = record {
        part = 2;
        first = record { inside = omega arith; here = λ h. n (back CountsOk h); before = first2 };
        told = ap (λ (x : ℕ). reply 8 ((x + 11) ∷ [])) r.start;
      }

      module _ (k : RecordCountsOk b) where
        first3 : (q : ℕ) → q < 3 → PartOk bytes J t q
        first3 = below_more (PartOk bytes J t) 2 first2 (there CountsOk k)

        pub ways_fault : (RecordWaysOk b → ⊥) → FirstFault bytes J t (Record (o + 14 + 4 * b.borders))
        ways_fault n = record {
          part = 3;
          first = record { inside = omega arith; here = λ h. n (back WaysOk h); before = first3 };
          told = ap₂ (λ (x y : ℕ). reply 8 ((x + 14 + 4 * y) ∷ [])) r.start (borders_are at t r.start);
        }

        pub record_good : RecordWaysOk b → RecordOk bytes J t
        record_good w = parts_record (below_more (PartOk bytes J t) 3 first3 (there WaysOk w))
