-- What a reader of a record finds at each of its bytes.
-- Assumes nothing.
use mathlib.Core.List.{List, ◌∷◌, ◌++◌}
use mathlib.Core.Path.{◌≡◌, refl, sym, ap, ◌∙◌}
use Prim.Native.Nat.{ℕ, ◌+◌, ◌*◌, ◌/◌, ◌%◌, ◌<◌, ◌≤◌}
use native.Mathlib.Nat.{div-add-mod', div-div-eq-div-mul, mod-eq_of_lt}
use native.Mathlib.Omega.{arith}
use lib.ListN.{length, get_or, get_or-append}
use lib.Seq.{get_or-append-add}
use Rattle.sheet.specs.Sheet.{count_at}
use Rattle.tile.specs.Border.{border_cells, border_place}
use Rattle.tile_bytes.specs.Bytes.{two, four, field, each, sides, border_count, border_way, way_bytes, record_bytes}
use Rattle.tile_bytes.proofs.Each.{each_read, counts_long, ways_long}

-- the byte at place i
abbrev pub byte_at : List ℕ → ℕ → ℕ
byte_at bytes i = get_or bytes i 0

-- the number in the two bytes at place i, and in the four
abbrev pub two_at : List ℕ → ℕ → ℕ
two_at bytes i = byte_at bytes i * 256 + byte_at bytes (i + 1)

abbrev pub four_at : List ℕ → ℕ → ℕ
four_at bytes i = byte_at bytes i * 16777216 + byte_at bytes (i + 1) * 65536 + byte_at bytes (i + 2) * 256 + byte_at bytes (i + 3)

-- ---- a number that fits is read as it was written

pub two_is : (n : ℕ) → n < 65536 → two_at (two n) 0 ≡ n
two_is n h = omega arith

digits : (n a b c x y z d : ℕ) → c * 256 + d ≡ n → b * 256 + z ≡ c → a * 256 + y ≡ b → x ≡ a → x * 16777216 + y * 65536 + z * 256 + d ≡ n
digits n a b c x y z d e f g h = omega arith

pub four_is : (n : ℕ) → n < 4294967296 → four_at (four n) 0 ≡ n
four_is n h =
    digits n (n / 16777216) (n / 65536) (n / 256) (n / 16777216 % 256) (n / 65536 % 256) (n / 256 % 256) (n % 256)
    (div-add-mod' n 256)
    (ap (λ (q : ℕ). q * 256 + n / 256 % 256) (sym (div-div-eq-div-mul n 256 256)) ∙ div-add-mod' (n / 256) 256)
    (ap (λ (q : ℕ). q * 256 + n / 65536 % 256) (sym (div-div-eq-div-mul n 65536 256)) ∙ div-add-mod' (n / 65536) 256)
    (mod-eq_of_lt (omega arith))

module _ (rows cols tile_row tile_col : ℕ) (grid counts : List ℕ) where
  abbrev pub whole : List ℕ
  whole = record_bytes rows cols tile_row tile_col grid counts

  -- how many border cells there are
  abbrev pub cells : ℕ
  cells = border_cells rows cols

  abbrev second : List ℕ
  second = each cells (λ b. border_count rows cols counts b)

  abbrev third : List ℕ
  third = each cells (λ b. way_bytes (border_way rows cols grid b))

  -- ---- field 1

  pub read_tag1 : byte_at whole 0 ≡ 1
  unfolding record_bytes
  read_tag1 = refl

  pub read_length1 : two_at whole 1 ≡ 8
  unfolding record_bytes
  read_length1 = refl

  pub read_rows : rows < 65536 → two_at whole 3 ≡ rows
  unfolding record_bytes
  read_rows h = two_is rows h

  pub read_cols : cols < 65536 → two_at whole 5 ≡ cols
  unfolding record_bytes
  read_cols h = two_is cols h

  pub read_tile_row : tile_row < 65536 → two_at whole 7 ≡ tile_row
  unfolding record_bytes
  read_tile_row h = two_is tile_row h

  pub read_tile_col : tile_col < 65536 → two_at whole 9 ≡ tile_col
  unfolding record_bytes
  read_tile_col h = two_is tile_col h

  -- ---- field 2

  pub read_tag2 : byte_at whole 11 ≡ 2
  unfolding record_bytes
  read_tag2 = refl

  pub read_length2 : cells ≤ 16383 → two_at whole 12 ≡ 4 * cells
  unfolding record_bytes
  read_length2 h = two_is (length second) (omega (arith, counts_long rows cols counts cells)) ∙ counts_long rows cols counts cells

  -- byte j of the count of border cell b
  in_second : (b j : ℕ) → b < cells → j < 4 → byte_at whole (14 + (4 * b + j)) ≡ byte_at (border_count rows cols counts b) j
  unfolding record_bytes
  in_second b j l h =
      get_or-append-add (field 1 (sides rows cols tile_row tile_col) ++ 2 ∷ two (length second)) (second ++ field 3 third) (4 * b + j) 0
      ∙ get_or-append second (field 3 third) 0 (4 * b + j) (omega (arith, counts_long rows cols counts cells))
      ∙ each_read (λ b. border_count rows cols counts b) 4 (λ b. refl) cells b j l h

  pub read_count : (b : ℕ) → b < cells → count_at counts (border_place rows cols b) < 4294967296 → four_at whole (14 + 4 * b) ≡ count_at counts (border_place rows cols b)
  read_count b l h =
      let n : ℕ = count_at counts (border_place rows cols b) in
      let p0 : byte_at whole (14 + 4 * b) ≡ byte_at (four n) 0 = ap (byte_at whole) (let e : 14 + 4 * b ≡ 14 + (4 * b + 0) = omega arith in e) ∙ in_second b 0 l (omega arith) in
      let p1 : byte_at whole (14 + 4 * b + 1) ≡ byte_at (four n) 1 = ap (byte_at whole) (let e : 14 + 4 * b + 1 ≡ 14 + (4 * b + 1) = omega arith in e) ∙ in_second b 1 l (omega arith) in
      let p2 : byte_at whole (14 + 4 * b + 2) ≡ byte_at (four n) 2 = ap (byte_at whole) (let e : 14 + 4 * b + 2 ≡ 14 + (4 * b + 2) = omega arith in e) ∙ in_second b 2 l (omega arith) in
      let p3 : byte_at whole (14 + 4 * b + 3) ≡ byte_at (four n) 3 = ap (byte_at whole) (let e : 14 + 4 * b + 3 ≡ 14 + (4 * b + 3) = omega arith in e) ∙ in_second b 3 l (omega arith) in
      rw (p0, p1, p2, p3) (four_is n h)

  -- ---- field 3

  before_third : (i : ℕ) → byte_at whole (14 + 4 * cells + i) ≡ byte_at (field 3 third) i
  unfolding record_bytes
  before_third i =
      let e : 14 + 4 * cells + i ≡ 14 + (length second + i) = omega (arith, counts_long rows cols counts cells) in
      ap (byte_at whole) e
      ∙ get_or-append-add (field 1 (sides rows cols tile_row tile_col) ++ 2 ∷ two (length second)) (second ++ field 3 third) (length second + i) 0
      ∙ get_or-append-add second (field 3 third) i 0

  pub read_tag3 : byte_at whole (14 + 4 * cells) ≡ 3
  read_tag3 = ap (byte_at whole) (let e : 14 + 4 * cells ≡ 14 + 4 * cells + 0 = omega arith in e) ∙ before_third 0

  pub read_length3 : cells ≤ 21845 → two_at whole (15 + 4 * cells) ≡ 3 * cells
  read_length3 h =
      let p0 : byte_at whole (15 + 4 * cells) ≡ byte_at (two (length third)) 0 = ap (byte_at whole) (let e : 15 + 4 * cells ≡ 14 + 4 * cells + 1 = omega arith in e) ∙ before_third 1 in
      let p1 : byte_at whole (15 + 4 * cells + 1) ≡ byte_at (two (length third)) 1 = ap (byte_at whole) (let e : 15 + 4 * cells + 1 ≡ 14 + 4 * cells + 2 = omega arith in e) ∙ before_third 2 in
      rw (p0, p1) (two_is (length third) (omega (arith, ways_long rows cols grid cells)) ∙ ways_long rows cols grid cells)

  -- byte j of the way of border cell b
  in_third : (b j : ℕ) → b < cells → j < 3 → byte_at whole (17 + 4 * cells + (3 * b + j)) ≡ byte_at (way_bytes (border_way rows cols grid b)) j
  in_third b j l h =
      let e : 17 + 4 * cells + (3 * b + j) ≡ 14 + 4 * cells + (3 + (3 * b + j)) = omega arith in
      ap (byte_at whole) e
      ∙ before_third (3 + (3 * b + j))
      ∙ get_or-append-add (3 ∷ two (length third)) third (3 * b + j) 0
      ∙ each_read (λ b. way_bytes (border_way rows cols grid b)) 3 (λ b. refl) cells b j l h

  pub read_way : (b : ℕ) → b < cells → (border_way rows cols grid b).number < 65536 → two_at whole (17 + 4 * cells + 3 * b) ≡ (border_way rows cols grid b).number
  read_way b l h =
      let n : ℕ = (border_way rows cols grid b).number in
      let p0 : byte_at whole (17 + 4 * cells + 3 * b) ≡ byte_at (two n) 0 = ap (byte_at whole) (let e : 17 + 4 * cells + 3 * b ≡ 17 + 4 * cells + (3 * b + 0) = omega arith in e) ∙ in_third b 0 l (omega arith) in
      let p1 : byte_at whole (17 + 4 * cells + 3 * b + 1) ≡ byte_at (two n) 1 = ap (byte_at whole) (let e : 17 + 4 * cells + 3 * b + 1 ≡ 17 + 4 * cells + (3 * b + 1) = omega arith in e) ∙ in_third b 1 l (omega arith) in
      rw (p0, p1) (two_is n h)

  pub read_code : (b : ℕ) → b < cells → byte_at whole (17 + 4 * cells + 3 * b + 2) ≡ (border_way rows cols grid b).code
  read_code b l = ap (byte_at whole) (let e : 17 + 4 * cells + 3 * b + 2 ≡ 17 + 4 * cells + (3 * b + 2) = omega arith in e) ∙ in_third b 2 l (omega arith)
