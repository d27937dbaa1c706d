-- What a record says of the way of a border cell, as the code holds it. Nothing here is cited by a public promise.
-- Assumes nothing.
use Rattle.std.specs.Prelude.{◌≡◌, ℕ}
use Rattle.mosaic_read.specs.BorderRecord.{record_way, record_code}
use Rattle.mosaic_read.specs.declared.record.BorderRecord.{BorderRecord}
use Rattle.tile.specs.declared.way.BorderWay.{BorderWay}
use Rattle.tile.specs.declared.way.BorderWay.TheVariants.{Absent, Inside, Over}

module _ (r : BorderRecord) (b : ℕ) where
  -- the two marks
  abbrev pub IsAbsent : Type 0
  IsAbsent = (record_way r b ≡ 65535) × (record_code r b ≡ 255)

  abbrev pub EndsInside : Type 0
  EndsInside = (record_way r b ≡ 65535) × (record_code r b ≡ 0)

  -- neither: the number and the code that it holds
  pub record LeadsOver (number code : ℕ) : Type 0 where
    pub number_is : number ≡ record_way r b
    pub code_is : code ≡ record_code r b
    pub not_absent : IsAbsent → ⊥
    pub not_inside : EndsInside → ⊥

  abbrev pub Tells : BorderWay → Type 0
  Tells Absent = IsAbsent
  Tells Inside = EndsInside
  Tells (Over number code) = LeadsOver number code
