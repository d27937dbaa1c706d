-- The refusals before joining begins, from the mosaic's own numbers and from what reading says.
-- Assumes nothing.
use mathlib.Core.Bool.{Bool, true, false, true≢false}
use mathlib.Core.List.{List, [], ◌∷◌}
use mathlib.Core.Path.{◌≡◌, sym, ap, subst, ◌∙◌}
use Prim.Native.Nat.{ℕ, zero, suc, ◌+◌, ◌*◌, ◌/◌, ◌%◌, ◌<◌, ◌≤◌}
use native.Mathlib.Omega.{arith}
use native.Mathlib.Nat.{mul-le-mul}
use lib.ListN.{length}
use Rattle.flow.specs.Net.{sum}
use Rattle.promise.specs.Links.Unless.{refused, met}
use Rattle.promise.specs.Links.UnlessAll.{refused_at, met_all}
use Rattle.promise.specs.Reply.{Reply, number_of}
use Rattle.promise.specs.Reply.Reply.{reply}
use Rattle.mosaic_read.specs.Read.{MosaicShape, fault_at, fault_reply, UnlessRecords, ReadPromise}
use Rattle.mosaic_read.specs.Records.{borders_of, start_of, PartOk}
use Rattle.mosaic_read.specs.Method.{Says}
use Rattle.mosaic_read.specs.declared.ReadError.{ReadError}
use Rattle.mosaic_read.specs.declared.ReadError.TheVariants.{Record, Layout}
use Rattle.sheet.specs.Shape.{within}
use Rattle.sheet.proofs.Places.{within_true, true_within}
use Rattle.mosaic_step.specs.Table.{WellFormed}

-- ---- the mosaic's own numbers

shape_of : (I J : ℕ) → (I * J ≡ 0 → ⊥) → I * J ≤ 64 → MosaicShape I J
shape_of zero J d l = absurd (d (omega arith))
shape_of (suc I) zero d l = absurd (d (omega arith))
shape_of (suc I) (suc J) d l = record { some_row = omega arith; some_col = omega arith; tiles_most = l }

module _ (I J : ℕ) where
  -- 1 to 64 tiles
  pub shape_says : {n : ℕ} → n ≡ I * J → (b : Bool) → b ≡ within n 64 → Says (MosaicShape I J) b
  shape_says {n} is true e = (let k = within_true n 64 (sym e) in shape_of I J (λ z. omega arith) (omega arith))
  shape_says {n} is false e = λ s.
      let some : 1 * 1 ≤ I * J = mul-le-mul s.some_row s.some_col in
      absurd (true≢false (sym (true_within n 64 (omega arith) (omega (arith, s.tiles_most))) ∙ sym e))

-- ---- reading

-- no fault is told by 0
fault_said : (bytes : List ℕ) (t part : ℕ) → number_of (fault_at bytes t part) ≡ 0 → ⊥
fault_said bytes t zero e = omega arith
fault_said bytes t (suc zero) e = omega arith
fault_said bytes t (suc (suc zero)) e = omega arith
fault_said bytes t (suc (suc (suc more))) e = omega arith

pub refusal_said : (e : ReadError) → number_of (fault_reply e) ≡ 0 → ⊥
refusal_said (Record byte) z = omega arith
refusal_said (Layout byte) z = omega arith

module _ (I J : ℕ) (bytes : List ℕ) where
  -- a refusal of reading is one of joining
  pub read_refused : {R : Type 0} {Rest : R → Type 0} (out : Reply → R) {r : Reply} → ReadPromise I J bytes r → (number_of r ≡ 0 → ⊥) → UnlessRecords I J bytes out Rest (out r)
  read_refused out (refused_at p f e) d = refused_at p f (ap out e)
  read_refused out (met_all a (refused n e)) d = met_all a (refused n (ap out e))
  read_refused out (met_all a (met l e)) d = absurd (d (ap number_of e))

  pub record Found (n : ℕ) : Type 0 where
    pub parts : (q : ℕ) → q < 4 * (I * J) → PartOk bytes J (q / 4) (q % 4)
    pub end : length bytes ≡ start_of bytes (I * J)
    pub all : n ≡ sum (I * J) (borders_of bytes)

  -- and where reading finds all well formed
  pub read_found : {n : ℕ} → ReadPromise I J bytes (reply 0 (n ∷ [])) → Found n
  read_found (refused_at p f e) = absurd (fault_said bytes (p / 4) (p % 4) (sym (ap number_of e)))
  read_found (met_all a (refused n e)) = absurd (let z = ap number_of e in omega arith)
  read_found (met_all a (met l e)) = record { parts = a; end = l; all = ap first e }
    where
      first : Reply → ℕ
      first (reply k []) = 0
      first (reply k (v ∷ vs)) = v

  -- what follows decides
  pub read_on : {R : Type 0} {Rest : R → Type 0} (out : Reply → R) {n : ℕ} {r : R} → Found n → Rest r → UnlessRecords I J bytes out Rest r
  read_on out s rest = met_all s.parts (met s.end rest)

  part_at : {n : ℕ} → Found n → (t k : ℕ) → t < I * J → k < 4 → PartOk bytes J t k
  part_at s t k lt lk =
      let d : (4 * t + k) / 4 ≡ t = omega arith in
      let m : (4 * t + k) % 4 ≡ k = omega arith in
      subst (λ (x : ℕ). PartOk bytes J t x) m (subst (λ (x : ℕ). PartOk bytes J x ((4 * t + k) % 4)) d (s.parts (4 * t + k) (omega arith)))

  pub read_well : {n : ℕ} → MosaicShape I J → Found n → WellFormed I J bytes
  read_well shape s = record {
    shape = shape;
    records = λ t lt. record { sides = part_at s t 0 lt (omega arith); placed = part_at s t 1 lt (omega arith); counts = part_at s t 2 lt (omega arith); ways = part_at s t 3 lt (omega arith) };
    ends = s.end;
  }
