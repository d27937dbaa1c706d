-- Where a tile stands in a mosaic, as the code that makes it answers.
-- Assumes nothing.
use Rattle.std.specs.Prelude.{Option, Some, None, ◌≡◌, ℕ, ◌≤◌}
use Rattle.tile_bytes.specs.declared.position.Position.{Position}

-- what making a position answers: the position, or that no mosaic has it
abbrev pub Stands : (row col : ℕ) → Option Position → Type 0
Stands row col (Some p) = (p.row ≡ row) × (p.col ≡ col)
Stands row col None = (row ≤ 63) × (col ≤ 63) → ⊥
