-- What is written for border cell b of tile t: one law for each way through the code that finds it.
-- Assumes nothing.
use mathlib.Core.List.{List}
use mathlib.Core.Logic.{inl, inr}
use mathlib.Core.Path.{◌≡◌, sym, ap, ap₂, ◌∙◌, subst}
use mathlib.Core.Bool.{Bool, true, false}
use Prim.Native.Nat.{ℕ, ◌+◌, ◌<◌, ◌≤◌}
use native.Mathlib.Omega.{arith}
use lib.Dec.{eqb}
use borrow.Author.Tests.{eq-eqb, ne_eqb}
use Rattle.flow.proofs.Sum.{test, same, on_true, on_false}
use Rattle.sheet.specs.Sheet.{count_at}
use Rattle.mosaic.specs.Join.{is_land, exit_at, onto, leads_to, own}
use Rattle.mosaic.specs.Layout.{borders_in}
use Rattle.mosaic.proofs.Fed.{exit_at_lem, leads_none, leads_way}
use Rattle.mosaic_read.specs.BorderRecord.{record_count, record_way, record_code}
use Rattle.mosaic_read.specs.BorderWay.{IsAbsent, EndsInside, LeadsOver}
use Rattle.mosaic_read.specs.Records.{borders_of, way_in, heights, widths}
use Rattle.mosaic_read.specs.Said.{borders, said_count, said_way, said_code}
use Rattle.mosaic_read.proofs.Sides.{borders_most as most}
use Rattle.mosaic_step.specs.Table.{WellFormed}
use Rattle.mosaic_step.specs.Mosaic.{all_in}
use Rattle.mosaic_step.specs.Tiles.{sought_by}
use Rattle.mosaic_step.specs.declared.tiles.MosaicTile.{MosaicTile}
use Rattle.mosaic_step.specs.declared.tiles.Tiles.{Tiles}
use Rattle.mosaic_step.proofs.OfTile.{size, count_is, way_is, code_is}
use Rattle.mosaic_step.proofs.Known.{borders_are, said_count_lem, said_way_lem, said_code_lem}
use Rattle.mosaic_net.specs.Method.{leads_by, pours_by, own_by, first_of}
use Rattle.mosaic_net.specs.Net.{AllFilled, leads_in}
use Rattle.mosaic_net.proofs.Told.{borders_most, first_next, cell_below, way_below, each_cell}
use Rattle.mosaic_net.proofs.Poured.{mark_land, mark_absent, pours_none, pours_off, pours_absent, pours_land}

-- ---- land

module _ (way code : ℕ → ℕ) (h : ℕ) where
  pub land_way : (way h ≡ 65535 → ⊥) → is_land way code h ≡ true
  unfolding is_land
  land_way d = rw (ne_eqb (way h) 65535 d)

  pub land_code : way h ≡ 65535 → (code h ≡ 255 → ⊥) → is_land way code h ≡ true
  unfolding is_land
  land_code e d = rw (eq-eqb (way h) 65535 e, ne_eqb (code h) 255 d)

  pub land_not : way h ≡ 65535 → code h ≡ 255 → is_land way code h ≡ false
  unfolding is_land
  land_not e d = rw (eq-eqb (way h) 65535 e, eq-eqb (code h) 255 d)

module _ (I J : ℕ) (bytes : List ℕ) (w : WellFormed I J bytes) where
  -- what the mosaic's border cells lead to
  abbrev leads : ℕ → ℕ
  leads = leads_to I J (heights bytes J) (widths bytes) (said_way bytes I J)

  abbrev exit : ℕ → Bool
  exit = exit_at I J (heights bytes J) (widths bytes) (said_way bytes I J)

  abbrev steps : ℕ → ℕ
  steps = onto I J (heights bytes J) (widths bytes) (said_code bytes I J)

  abbrev land : ℕ → Bool
  land = is_land (said_way bytes I J) (said_code bytes I J)

  -- is a border cell, or none
  pub leads_le : (h : ℕ) → h < borders I J bytes → leads h ≤ borders I J bytes
  leads_le = each_cell I J bytes w (λ h. leads h ≤ borders I J bytes) (λ t b lt lb.
      let lc : b < borders_in J (heights bytes J) (widths bytes) t = omega (arith, borders_are w t lt) in
      elim (same (way_in bytes t b) 65535) [
        | inl e ↦ omega (arith, leads_none I J (heights bytes J) (widths bytes) (said_way bytes I J) (said_code bytes I J) t b lt lc (said_way_lem w t lt b lb ∙ e))
        | inr d ↦ omega (
          arith,
          leads_way I J (heights bytes J) (widths bytes) (said_way bytes I J) (said_code bytes I J) t b lt lc (said_way_lem w t lt b lb) d,
          cell_below I J bytes w t lt (way_in bytes t b) (way_below I J bytes w t lt b lb d),
        )
      ])

  -- and what is written for it is small
  pub leads_most : (h : ℕ) → h < borders I J bytes → leads_by I J bytes h < 65282
  leads_most h l =
      elim (test (land h)) [
        | inl a ↦ omega (arith, mark_land I J (heights bytes J) (widths bytes) (said_way bytes I J) (said_code bytes I J) h a, leads_le h l, borders_most I J bytes w)
        | inr a ↦ omega (arith, mark_absent I J (heights bytes J) (widths bytes) (said_way bytes I J) (said_code bytes I J) h a, borders_most I J bytes w)
      ]

-- the next tile's first border cell
pub next_first : (m : MosaicTile) {s : Tiles} {t : ℕ} → m.tiles ≡ s → m.number ≡ t
    → first_of s.mosaic.tile_rows s.mosaic.tile_cols s.mosaic.records.now (t + 1) ≡ m.first + m.border.borders
next_first m same is =
    let own = m.tiles.mosaic in
    ap₂ (λ (x : Tiles) (y : ℕ). first_of x.mosaic.tile_rows x.mosaic.tile_cols x.mosaic.records.now (y + 1)) (sym same) (sym is)
    ∙ omega (arith, first_next own.tile_rows own.tile_cols own.records.now own.well_formed m.number m.stands.tile, m.before, size m)

-- ---- border cell b of a tile

module _ (m : MosaicTile) (b : ℕ) (lb : b < m.border.borders) where
  abbrev I : ℕ
  I = m.tiles.mosaic.tile_rows

  abbrev J : ℕ
  J = m.tiles.mosaic.tile_cols

  abbrev bytes : List ℕ
  bytes = m.tiles.mosaic.records.now

  abbrev t : ℕ
  t = m.number

  w : WellFormed I J bytes
  w = m.tiles.mosaic.well_formed

  in_record : b < borders_of bytes t
  in_record = omega (arith, size m)

  in_tile : b < borders_in J (heights bytes J) (widths bytes) t
  in_tile = omega (arith, borders_are w t m.stands.tile, size m)

  -- its number in the mosaic
  pub here : m.first + b ≡ first_of I J bytes t + b
  here = ap (λ (x : ℕ). x + b) m.before

  pub here_below : m.first + b < borders I J bytes
  here_below = omega (arith, here, cell_below I J bytes w t m.stands.tile b in_record)

  pub below_all : {s : Tiles} → m.tiles ≡ s → m.first + b < all_in s.mosaic
  below_all same = subst (λ (x : Tiles). m.first + b < all_in x.mosaic) same here_below

  -- its count and its way
  count_here : record_count m.border b ≡ said_count bytes I J (m.first + b)
  count_here = count_is m b ∙ sym (said_count_lem w t m.stands.tile b in_record) ∙ ap (said_count bytes I J) (sym here)

  pub way_here : record_way m.border b ≡ said_way bytes I J (m.first + b)
  way_here = way_is m b ∙ sym (said_way_lem w t m.stands.tile b in_record) ∙ ap (said_way bytes I J) (sym here)

  code_here : record_code m.border b ≡ said_code bytes I J (m.first + b)
  code_here = code_is m b ∙ sym (said_code_lem w t m.stands.tile b in_record) ∙ ap (said_code bytes I J) (sym here)

  -- ---- where it leads

  -- a way that is neither mark names a border cell
  over_way : {number code : ℕ} → LeadsOver m.border b number code → number ≡ 65535 → ⊥
  over_way o e =
      let leads = ((w.records t m.stands.tile).ways.ways b in_record).leads
      (λ x. o.not_absent (way_is m b ∙ x.0, code_is m b ∙ x.1)) (λ x. o.not_inside (way_is m b ∙ x.0, code_is m b ∙ x.1)) in
      omega (arith, e, o.number_is, way_is m b, leads.border, size m, most m.border)

  lead_way : {e : ℕ} → e ≡ record_way m.border b → (e ≡ 65535 → ⊥) → m.first + e ≡ leads_by I J bytes (m.first + b)
  lead_way {e} is d =
      let said : said_way bytes I J (m.first + b) ≡ e = sym (is ∙ way_here) in
      let there : said_way bytes I J (first_of I J bytes t + b) ≡ e = ap (said_way bytes I J) (sym here) ∙ said in
      ap (λ (x : ℕ). x + e) m.before
      ∙ sym (leads_way I J (heights bytes J) (widths bytes) (said_way bytes I J) (said_code bytes I J) t b m.stands.tile in_tile there d)
      ∙ ap (leads I J bytes w) (sym here)
      ∙ sym (mark_land I J (heights bytes J) (widths bytes) (said_way bytes I J) (said_code bytes I J) (m.first + b) (land_way (said_way bytes I J) (said_code bytes I J) (m.first + b) (λ x. d (sym said ∙ x))))

  pub lead_over : {number code : ℕ} → LeadsOver m.border b number code → m.first + number ≡ leads_by I J bytes (m.first + b)
  lead_over o = lead_way o.number_is (over_way o)

  pub lead_absent : IsAbsent m.border b → borders I J bytes + 1 ≡ leads_by I J bytes (m.first + b)
  lead_absent (e, d) =
      sym (mark_absent I J (heights bytes J) (widths bytes) (said_way bytes I J) (said_code bytes I J) (m.first + b)
      (land_not (said_way bytes I J) (said_code bytes I J) (m.first + b) (sym way_here ∙ e) (sym code_here ∙ d)))

  pub lead_ends : EndsInside m.border b → borders I J bytes ≡ leads_by I J bytes (m.first + b)
  lead_ends (e, d) =
      let there : said_way bytes I J (first_of I J bytes t + b) ≡ 65535 = ap (said_way bytes I J) (sym here) ∙ sym way_here ∙ e in
      sym (leads_none I J (heights bytes J) (widths bytes) (said_way bytes I J) (said_code bytes I J) t b m.stands.tile in_tile there)
      ∙ ap (leads I J bytes w) (sym here)
      ∙ sym (mark_land I J (heights bytes J) (widths bytes) (said_way bytes I J) (said_code bytes I J) (m.first + b) (land_code (said_way bytes I J) (said_code bytes I J) (m.first + b) (sym way_here ∙ e) (λ x. omega (arith, d, code_here, x))))

  pub lead_most : leads_by I J bytes (m.first + b) < 65282
  lead_most = leads_most I J bytes w (m.first + b) here_below

  -- ---- an exit, or none

  exit_here : exit I J bytes w (m.first + b) ≡ eqb (record_way m.border b) b
  exit_here =
      ap (exit I J bytes w) here
      ∙ exit_at_lem I J (heights bytes J) (widths bytes) (said_way bytes I J) (said_code bytes I J) t b m.stands.tile in_tile
      ∙ ap (λ (x : ℕ). eqb x b) (ap (said_way bytes I J) (sym here) ∙ sym way_here)

  is_exit_lem : record_way m.border b ≡ b → exit I J bytes w (m.first + b) ≡ true
  is_exit_lem e = exit_here ∙ eq-eqb (record_way m.border b) b e

  no_exit : (record_way m.border b ≡ b → ⊥) → exit I J bytes w (m.first + b) ≡ false
  no_exit d = exit_here ∙ ne_eqb (record_way m.border b) b d

  -- its own count
  pub own_none : (record_way m.border b ≡ b → ⊥) → 0 ≡ own_by I J bytes (m.first + b)
  unfolding own
  own_none d = sym (on_false (said_count bytes I J (m.first + b)) (no_exit d))

  pub own_exit : record_way m.border b ≡ b → record_count m.border b ≡ own_by I J bytes (m.first + b)
  unfolding own
  own_exit e = count_here ∙ sym (on_true (said_count bytes I J (m.first + b)) (is_exit_lem e))

  -- what it pours onto
  pub pour_none : (record_way m.border b ≡ b → ⊥) → borders I J bytes ≡ pours_by I J bytes (m.first + b)
  pour_none d = sym (pours_none I J (heights bytes J) (widths bytes) (said_way bytes I J) (said_code bytes I J) (m.first + b) (no_exit d))

  pub pour_off : record_way m.border b ≡ b → sought_by m b ≡ all_in m.tiles.mosaic → borders I J bytes ≡ pours_by I J bytes (m.first + b)
  pour_off e off = sym (pours_off I J (heights bytes J) (widths bytes) (said_way bytes I J) (said_code bytes I J) (m.first + b) (is_exit_lem e) (omega (arith, off)))

  module _ {h : ℕ} (is : h ≡ sought_by m b) (l : h < all_in m.tiles.mosaic) (e : record_way m.border b ≡ b) {list : List ℕ} (s : AllFilled m.tiles.mosaic (leads_in m.tiles.mosaic) list) where
    pub pour_absent : borders I J bytes < count_at list h → borders I J bytes ≡ pours_by I J bytes (m.first + b)
    pour_absent o =
        elim (test (land I J bytes w h)) [
          | inl a ↦ absurd (omega (arith, s.holds h l, mark_land I J (heights bytes J) (widths bytes) (said_way bytes I J) (said_code bytes I J) h a, leads_le I J bytes w h l))
          | inr a ↦ sym (pours_absent I J (heights bytes J) (widths bytes) (said_way bytes I J) (said_code bytes I J) (m.first + b) (is_exit_lem e) (omega (arith, is)) (ap (land I J bytes w) (sym is) ∙ a))
        ]

    pub pour_land : count_at list h ≤ borders I J bytes → h ≡ pours_by I J bytes (m.first + b)
    pour_land o =
        elim (test (land I J bytes w h)) [
          | inl a ↦ sym (pours_land I J (heights bytes J) (widths bytes) (said_way bytes I J) (said_code bytes I J) (m.first + b) (is_exit_lem e) (omega (arith, is)) (ap (land I J bytes w) (sym is) ∙ a) ∙ sym is)
          | inr a ↦ absurd (omega (arith, s.holds h l, mark_absent I J (heights bytes J) (widths bytes) (said_way bytes I J) (said_code bytes I J) h a))
        ]
