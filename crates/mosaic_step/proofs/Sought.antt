-- The border cell that an exit steps onto, from what was read of its tile: one law for each way through the code that seeks it.
-- Assumes nothing.
use mathlib.Core.Bool.{true}
use mathlib.Core.List.{List}
use mathlib.Core.Path.{◌≡◌, sym, ap, ap₂, ◌∙◌}
use Prim.Native.Nat.{ℕ, ◌+◌, ◌*◌, ◌/◌, ◌%◌, ◌≤◌, ◌<◌}
use native.Mathlib.Omega.{arith}
use Rattle.sheet.specs.Compass.{is_arrow, step_of}
use Rattle.sheet.specs.Sheet.{step_from}
use Rattle.tile.specs.Border.{border_place}
use Rattle.mosaic.specs.Layout.{height_of, width_of, cells_in, borders_in, borders_before, all_borders, place_in}
use Rattle.mosaic.specs.Join.{onto}
use Rattle.mosaic.proofs.Steps.{down, right}
use Rattle.mosaic_read.specs.Records.{borders_of, heights, widths, way_in, code_in}
use Rattle.mosaic_read.specs.Said.{said_code}
use Rattle.mosaic_step.specs.Stands.{TileIs}
use Rattle.mosaic_step.specs.Line.{piece_after, number_after}
use Rattle.mosaic_step.specs.Table.{WellFormed}
use Rattle.mosaic_step.proofs.Crossing.{Found, cross_rows, cross_cols, cross_to}
use Rattle.mosaic_step.proofs.Known.{height_is, width_is, borders_are, said_code_lem, exit_arrow, exit_outside, height_some, width_some}

-- border cell b of tile t, a tile of rows by cols, stands in row r and column c, and its way has the code a
pub record Standing (J : ℕ) (bytes : List ℕ) (t b rows cols r c a : ℕ) : Type 0 where
  pub height : rows ≡ height_of J (heights bytes J) t
  pub width : cols ≡ width_of J (widths bytes) t
  pub place_is : r * cols + c ≡ border_place rows cols b
  pub row_in : r < rows
  pub col_in : c < cols
  pub code : a ≡ code_in bytes t b

-- the border cell that it steps onto
abbrev pub sought_in : (I J : ℕ) → List ℕ → ℕ → ℕ → ℕ
sought_in I J bytes t b = onto I J (heights bytes J) (widths bytes) (said_code bytes I J) (borders_before J (heights bytes J) (widths bytes) t + b)

module _ {I J : ℕ} {bytes : List ℕ} {t i j b rows cols r c a : ℕ} (w : WellFormed I J bytes) (at : TileIs I J t i j) (border : b < borders_of bytes t) (itself : way_in bytes t b ≡ b) (s : Standing J bytes t b rows cols r c a) where
  pub exit_code : is_arrow a ≡ true
  exit_code = rw s.code (exit_arrow w t at.tile b border itself)

  -- ---- what the laws of crossing ask

  stands : r * width_of J (widths bytes) t + c ≡ place_in J (heights bytes J) (widths bytes) t b
  stands = ap (λ (x : ℕ). r * x + c) (sym s.width) ∙ s.place_is ∙ ap₂ (λ (x y : ℕ). border_place x y b) s.height s.width

  says : said_code bytes I J (borders_before J (heights bytes J) (widths bytes) t + b) ≡ a
  says = said_code_lem w t at.tile b border ∙ sym s.code

  outside : cells_in J (heights bytes J) (widths bytes) t
      ≤ step_from (height_of J (heights bytes J) t) (width_of J (widths bytes) t) (step_of a) (r * width_of J (widths bytes) t + c)
  outside =
      let h = height_is w t at.tile in
      let v = width_is w t at.tile in
      rw (stands, s.code, ← h, ← v) (exit_outside w t at.tile b border itself)

  lb : b < borders_in J (heights bytes J) (widths bytes) t
  lb = omega (arith, border, borders_are w t at.tile)

  lr : r < height_of J (heights bytes J) t
  lr = omega (arith, s.row_in, s.height)

  lc : c < width_of J (widths bytes) t
  lc = omega (arith, s.col_in, s.width)

  tall : (k : ℕ) → k < I → 0 < heights bytes J k
  tall k l = (height_some w k l).0

  wide : (k : ℕ) → k < J → 0 < widths bytes k
  wide k l = (width_some w k l).0

  module _ {D : ℕ} (d : D ≡ r + down a) {k : ℕ} (p : k ≡ piece_after I i rows D) where
    row_piece : k ≡ piece_after I (t / J) (height_of J (heights bytes J) t) (r + down a)
    row_piece = p ∙ ap (λ (x : ℕ). piece_after I i rows x) d ∙ ap₂ (λ (x y : ℕ). piece_after I x y (r + down a)) at.row s.height

    -- the row steps off the mosaic
    pub off_rows : I ≤ k → sought_in I J bytes t b ≡ all_borders I J (heights bytes J) (widths bytes)
    off_rows l =
        cross_rows I J (heights bytes J) (widths bytes) (said_code bytes I J) t b r c a at.tile lb lr lc stands says exit_code outside tall wide row_piece l

    module _ {R : ℕ} (v : R ≡ c + right a) {m : ℕ} (q : m ≡ piece_after J j cols R) where
      col_piece : m ≡ piece_after J (t % J) (width_of J (widths bytes) t) (c + right a)
      col_piece = q ∙ ap (λ (x : ℕ). piece_after J j cols x) v ∙ ap₂ (λ (x y : ℕ). piece_after J x y (c + right a)) at.col s.width

      -- the column does
      pub off_cols : J ≤ m → sought_in I J bytes t b ≡ all_borders I J (heights bytes J) (widths bytes)
      off_cols l =
          cross_cols I J (heights bytes J) (widths bytes) (said_code bytes I J) t b r c a at.tile lb lr lc stands says exit_code outside tall wide col_piece l

      -- neither does: the step is onto row r' and column c' of tile u
      pub onto_tile : k < I → m < J → (u : ℕ) → u ≡ k * J + m → {tall wide r' c' : ℕ} → tall ≡ height_of J (heights bytes J) u → wide ≡ width_of J (widths bytes) u
          → r' ≡ number_after i D k tall → c' ≡ number_after j R m wide → Found I J (heights bytes J) (widths bytes) (sought_in I J bytes t b) u r' c'
      onto_tile lk lm u is {tall = H} {wide = W} h x n o =
          cross_to I J (heights bytes J) (widths bytes) (said_code bytes I J) t b r c a at.tile lb lr lc stands says exit_code outside tall wide u row_piece lk col_piece lm is
          (n ∙ ap₂ (λ (y z : ℕ). number_after i y k z) d h ∙ ap (λ (y : ℕ). number_after y (r + down a) k (height_of J (heights bytes J) u)) at.row)
          (o ∙ ap₂ (λ (y z : ℕ). number_after j y m z) v x ∙ ap (λ (y : ℕ). number_after y (c + right a) m (width_of J (widths bytes) u)) at.col)
