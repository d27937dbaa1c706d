-- A test of a row that the checker computes, and the law that turns it into what the row means.
-- Assumes nothing.
use mathlib.Core.Bool.{Bool, true, not, ◌&&◌, true≢false}
use mathlib.Core.List.{List, [], ◌∷◌}
use mathlib.Core.Path.{◌≡◌, sym, ap₂, ◌∙◌}
use Prim.Native.Nat.{ℕ, ◌*◌, ◌<◌}
use lib.Dec.{eqb, leb, ltb}
use lib.ListN.{length}
use borrow.Author.Tests.{eqb-true, leb-true, ltb-true, not-true}
use Rattle.promise.specs.Links.{FirstNot}
use Rattle.flow.proofs.Test.{allb, allb_says, countsb, countsb_iff, no_loopb, no_loopb_iff}
use Rattle.sheet.specs.Compass.{is_code}
use Rattle.sheet.specs.Shape.{SheetShape}
use Rattle.sheet.specs.Sheet.{code_at, CodeOk, dest_of, unit, count_at, FirstSheetLoop}
use Rattle.sheet.specs.Totals.{land_cells, outlets, greatest_count}
use Rattle.sheet.proofs.Dest.{dest_beyond}
use Rattle.mosaic.specs.Layout.{sheet_rows, sheet_cols}
use Rattle.marked.specs.Table.{Answer, Row, sides, CutAs, Answers, Says, All}
use Rattle.marked.specs.Table.Answer.{counted, loop, code_though_loop, cut_counted, cut_loop}
use Rattle.marked.specs.Table.All.{none, and}
use Rattle.marked.proofs.NetTest.{both, firstb, first_says}
use Rattle.marked.proofs.CutTest.{joinedb, join_loopb, joined_says, join_loop_says}

-- ---- the tests

unfoldable pub codesb : ℕ → List ℕ → Bool
codesb n g = allb n (λ p. is_code (code_at g p))

unfoldable pub shapeb : ℕ → ℕ → Bool
shapeb rows cols = leb 1 rows && (leb rows 4096 && (leb 1 cols && leb cols 4096))

unfoldable pub loopb : ℕ → ℕ → List ℕ → ℕ → ℕ → Bool
loopb rows cols g p len = firstb (rows * cols) (dest_of rows cols g) p len

unfoldable pub badb : ℕ → List ℕ → ℕ → Bool
badb n g p = ltb p n && (not (is_code (code_at g p)) && codesb p g)

unfoldable pub cutb : Row → (heights widths : List ℕ) → Bool
cutb r heights widths = eqb (sheet_rows (length heights) (sides heights)) r.rows && eqb (sheet_cols (length widths) (sides widths)) r.cols

unfoldable pub answerb : Row → Answer → Bool
answerb r (counted counts land out greatest) =
    codesb (r.rows * r.cols) r.grid
    && (no_loopb (r.rows * r.cols) (dest_of r.rows r.cols r.grid)
    && (eqb (length counts) (r.rows * r.cols)
    && (countsb (r.rows * r.cols) (dest_of r.rows r.cols r.grid) (unit r.grid) (count_at counts)
    && (eqb (land_cells r.rows r.cols r.grid) land
    && (eqb (outlets r.rows r.cols r.grid) out
    && eqb (greatest_count r.rows r.cols counts) greatest)))))
answerb r (loop place len) = codesb (r.rows * r.cols) r.grid && loopb r.rows r.cols r.grid place len
answerb r (code_though_loop place loop_place len) = badb (r.rows * r.cols) r.grid place && loopb r.rows r.cols r.grid loop_place len
answerb r (cut_counted heights widths totals counts) =
    codesb (r.rows * r.cols) r.grid && (cutb r heights widths && joinedb (length heights) (length widths) (sides heights) (sides widths) r.grid totals counts)
answerb r (cut_loop heights widths tile border exits) =
    codesb (r.rows * r.cols) r.grid && (cutb r heights widths && join_loopb (length heights) (length widths) (sides heights) (sides widths) r.grid tile border exits)

unfoldable pub saysb : Row → Bool
saysb r = shapeb r.rows r.cols && (eqb (length r.grid) (r.rows * r.cols) && answerb r r.answer)

unfoldable pub all_sayb : List Row → Bool
all_sayb [] = true
all_sayb (r ∷ rs) = saysb r && all_sayb rs

-- ---- what they mean

shape_says : (rows cols : ℕ) → shapeb rows cols ≡ true → SheetShape rows cols
unfolding shapeb
shape_says rows cols e =
    let (a, x) = both (leb 1 rows) _ e in
    let (b, y) = both (leb rows 4096) _ x in
    let (c, d) = both (leb 1 cols) _ y in
    record { some_row = leb-true 1 rows a; rows_most = leb-true rows 4096 b; some_col = leb-true 1 cols c; cols_most = leb-true cols 4096 d }

codes_say : (n : ℕ) (g : List ℕ) → codesb n g ≡ true → (p : ℕ) → p < n → CodeOk g p
unfolding codesb
codes_say n g e = allb_says n _ e

bad_says : (n : ℕ) (g : List ℕ) (p : ℕ) → badb n g p ≡ true → FirstNot n (CodeOk g) p
unfolding badb
bad_says n g p e =
    let (a, x) = both (ltb p n) _ e in
    let (b, y) = both (not (is_code (code_at g p))) _ x in
    record { inside = ltb-true p n a; here = λ h. true≢false (sym h ∙ not-true _ b); before = codes_say p g y }

loop_says : (rows cols : ℕ) (g : List ℕ) (p len : ℕ) → length g ≡ rows * cols → loopb rows cols g p len ≡ true → FirstSheetLoop rows cols g p len
unfolding loopb
loop_says rows cols g p len long e = first_says (rows * cols) (dest_of rows cols g) (dest_beyond rows cols g long) p len e

cut_says : (r : Row) (heights widths : List ℕ) → cutb r heights widths ≡ true → CutAs r heights widths
unfolding cutb
cut_says r heights widths e =
    let (a, b) = both (eqb (sheet_rows (length heights) (sides heights)) r.rows) _ e in
    record { rows_are = eqb-true _ _ a; cols_are = eqb-true _ _ b }

-- the sheet has as many codes as the tiles have cells
cut_long : (r : Row) (heights widths : List ℕ) → length r.grid ≡ r.rows * r.cols → CutAs r heights widths
    → length r.grid ≡ sheet_rows (length heights) (sides heights) * sheet_cols (length widths) (sides widths)
cut_long r heights widths long cut = long ∙ sym (ap₂ ◌*◌ cut.rows_are cut.cols_are)

answer_says : (r : Row) → length r.grid ≡ r.rows * r.cols → (a : Answer) → answerb r a ≡ true → Answers r a
unfolding answerb
answer_says r long (counted counts land out greatest) e =
    let n : ℕ = r.rows * r.cols in
    let (a, x1) = both (codesb n r.grid) _ e in
    let (b, x2) = both (no_loopb n (dest_of r.rows r.cols r.grid)) _ x1 in
    let (c, x3) = both (eqb (length counts) n) _ x2 in
    let (d, x4) = both (countsb n (dest_of r.rows r.cols r.grid) (unit r.grid) (count_at counts)) _ x3 in
    let (f, x5) = both (eqb (land_cells r.rows r.cols r.grid) land) _ x4 in
    let (g, h) = both (eqb (outlets r.rows r.cols r.grid) out) _ x5 in
    record {
      codes = codes_say n r.grid a;
      no_loop = (no_loopb_iff n (dest_of r.rows r.cols r.grid) (dest_beyond r.rows r.cols r.grid long)).0 b;
      long = eqb-true _ _ c;
      equation = (countsb_iff n (dest_of r.rows r.cols r.grid) (unit r.grid) (count_at counts)).0 d;
      land_is = eqb-true _ _ f;
      outlets_are = eqb-true _ _ g;
      greatest_is = eqb-true _ _ h;
    }
answer_says r long (loop place len) e =
    let (a, b) = both (codesb (r.rows * r.cols) r.grid) _ e in
    record { codes = codes_say (r.rows * r.cols) r.grid a; first = loop_says r.rows r.cols r.grid place len long b }
answer_says r long (code_though_loop place loop_place len) e =
    let (a, b) = both (badb (r.rows * r.cols) r.grid place) _ e in
    record { bad = bad_says (r.rows * r.cols) r.grid place a; first = loop_says r.rows r.cols r.grid loop_place len long b }
answer_says r long (cut_counted heights widths totals counts) e =
    let (a, x) = both (codesb (r.rows * r.cols) r.grid) _ e in
    let (b, c) = both (cutb r heights widths) _ x in
    let cut : CutAs r heights widths = cut_says r heights widths b in
    record {
      codes = codes_say (r.rows * r.cols) r.grid a;
      cut_as = cut;
      joined = joined_says (length heights) (length widths) (sides heights) (sides widths) r.grid (cut_long r heights widths long cut) totals counts c;
    }
answer_says r long (cut_loop heights widths tile border exits) e =
    let (a, x) = both (codesb (r.rows * r.cols) r.grid) _ e in
    let (b, c) = both (cutb r heights widths) _ x in
    let cut : CutAs r heights widths = cut_says r heights widths b in
    record {
      codes = codes_say (r.rows * r.cols) r.grid a;
      cut_as = cut;
      first = join_loop_says (length heights) (length widths) (sides heights) (sides widths) r.grid (cut_long r heights widths long cut) tile border exits c;
    }

-- the law: a row that passes says what is so
pub row_says : (r : Row) → saysb r ≡ true → Says r
unfolding saysb
row_says r e =
    let (a, x) = both (shapeb r.rows r.cols) _ e in
    let (b, c) = both (eqb (length r.grid) (r.rows * r.cols)) _ x in
    let long : length r.grid ≡ r.rows * r.cols = eqb-true _ _ b in
    record { shape = shape_says r.rows r.cols a; codes_long = long; answers = answer_says r long r.answer c }

pub all_say : (rs : List Row) → all_sayb rs ≡ true → All rs
unfolding all_sayb
all_say [] e = none
all_say (r ∷ rs) e = let (a, b) = both (saysb r) _ e in and (row_says r a) (all_say rs b)
