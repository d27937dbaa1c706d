-- The records of a mosaic in turn: the chain of refusals for each way through the code that reads them, and what a caller learns of each.
-- Assumes nothing.
use mathlib.Core.List.{List, [], ◌∷◌}
use mathlib.Core.Logic.{inl, inr}
use mathlib.Core.Path.{◌≡◌, refl, sym, ap, ap₂, ◌∙◌, transport}
use Prim.Native.Nat.{ℕ, ◌+◌, ◌*◌, ◌/◌, ◌%◌, ◌<◌}
use native.Mathlib.Omega.{arith}
use lib.ListN.{length}
use Rattle.flow.specs.Net.{sum}
use Rattle.flow.proofs.Walk.{below}
use Rattle.promise.specs.Links.{FirstNot}
use Rattle.promise.specs.Links.Unless.{refused, met}
use Rattle.promise.specs.Links.UnlessAll.{refused_at, met_all}
use Rattle.promise.specs.Reply.Reply.{reply}
use Rattle.mosaic_read.specs.Records.{start_of, borders_of, PartOk, RecordOk}
use Rattle.mosaic_read.specs.Read.{fault_at, fault_reply, ReadPromise}
use Rattle.mosaic_read.specs.Method.{FirstFault}
use Rattle.mosaic_read.specs.declared.ReadError.{ReadError}
use Rattle.mosaic_read.proofs.OneRecord.{record_parts, parts_record}

-- the first k records are well formed
abbrev pub AllOk : List ℕ → ℕ → ℕ → Type 0
AllOk bytes J k = (t : ℕ) → t < k → RecordOk bytes J t

-- part p of record t
record_of_lem : (t p : ℕ) → p < 4 → (4 * t + p) / 4 ≡ t
record_of_lem t p l = omega arith

part_of : (t p : ℕ) → p < 4 → (4 * t + p) % 4 ≡ p
part_of t p l = omega arith

module _ (bytes : List ℕ) (J : ℕ) where
  -- ---- all parts, all records

  pub records_parts : (k : ℕ) → AllOk bytes J k → (m : ℕ) → m < 4 * k → PartOk bytes J (m / 4) (m % 4)
  records_parts k ok m l = record_parts (ok (m / 4) (omega arith)) (m % 4)

  part_at : (t p : ℕ) → p < 4 → PartOk bytes J ((4 * t + p) / 4) ((4 * t + p) % 4) ≡ PartOk bytes J t p
  part_at t p l = ap₂ (PartOk bytes J) (record_of_lem t p l) (part_of t p l)

  pub parts_records : (k : ℕ) → ((m : ℕ) → m < 4 * k → PartOk bytes J (m / 4) (m % 4)) → AllOk bytes J k
  parts_records k parts t l = parts_record (λ p lp. transport (part_at t p lp) (parts (4 * t + p) (omega arith)))

  -- ---- a fault in record t

  before_part : (t p : ℕ) → AllOk bytes J t → ((q : ℕ) → q < p → PartOk bytes J t q) → (m : ℕ) → m < 4 * t + p → p < 4 → PartOk bytes J (m / 4) (m % 4)
  before_part t p ok parts m l lp =
      elim (below (m / 4) t) [
        | inl b ↦ record_parts (ok (m / 4) b) (m % 4)
        | inr b ↦ (let e : m / 4 ≡ t = omega arith in rw e (parts (m % 4) (omega arith)))
      ]

  pub fault_first : (k t p : ℕ) → t < k → AllOk bytes J t → FirstNot 4 (PartOk bytes J t) p → FirstNot (4 * k) (λ m. PartOk bytes J (m / 4) (m % 4)) (4 * t + p)
  fault_first k t p l ok f = record {
    inside = omega (arith, f.inside);
    here = λ h. f.here (transport (part_at t p f.inside) h);
    before = λ m lm. before_part t p ok f.before m lm f.inside;
  }

  -- a fault of record t is the first fault
  pub read_fault : (I t : ℕ) {e : ReadError} → t < I * J → AllOk bytes J t → FirstFault bytes J t e → ReadPromise I J bytes (fault_reply e)
  read_fault I t l ok f =
      let p = f.part in
      refused_at (4 * t + p) (fault_first (I * J) t p l ok f.first) (f.told ∙ sym (ap₂ (fault_at bytes) (record_of_lem t p f.first.inside) (part_of t p f.first.inside)))

  -- ---- all records are well formed

  module _ (I : ℕ) (ok : AllOk bytes J (I * J)) where
    -- a byte after the last
    pub read_past : start_of bytes (I * J) < length bytes → ReadPromise I J bytes (reply 8 (start_of bytes (I * J) ∷ []))
    read_past l = met_all (records_parts (I * J) ok) (refused (λ e. omega arith) refl)

    pub read_good : length bytes ≡ start_of bytes (I * J) → {b : ℕ} → b ≡ sum (I * J) (borders_of bytes) → ReadPromise I J bytes (reply 0 (b ∷ []))
    read_good e is = met_all (records_parts (I * J) ok) (met e (ap (λ (x : ℕ). reply 0 (x ∷ [])) is))
