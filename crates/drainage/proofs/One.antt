-- One outcome only of what C and Rust call: of each operation, what it returns and what the buffers then hold; and of a length that is told for a tile.
-- Assumes nothing.
use mathlib.Core.List.{List}
use mathlib.Core.Logic.{◌⊎◌, inl, inr}
use mathlib.Core.Path.{◌≡◌, sym, ap, ◌∙◌}
use Prim.Native.Nat.{ℕ}
use native.Mathlib.Omega.{arith}
use Rattle.flow.proofs.Walk.{below}
use Rattle.promise.specs.Links.{AtMostOne}
use Rattle.sheet.specs.Shape.{Within}
use Rattle.promise.specs.Reply.{Reply}
use Rattle.checking.proofs.One.{check_one}
use Rattle.count.proofs.One.{count_one}
use Rattle.mend.proofs.One.{mend_one}
use Rattle.mosaic_join.specs.Joining.{Work}
use Rattle.mosaic_join.proofs.One.{join_one}
use Rattle.tile_finish.proofs.One.{finish_one}
use Rattle.tile_record.proofs.One.{record_one}
use Rattle.drainage.specs.Calls.{CountCall, CheckCall, MendCall, RecordCall, FinishCall, JoinCall}
use Rattle.drainage.specs.Flat.{flat}
use Rattle.drainage.specs.Lengths.{InTile}
use Rattle.drainage.specs.declared.reply.Flat.{Flat}

-- a shape lies within the bounds or outside them
shape_or_none : (most rows cols : ℕ) → Within most rows cols ⊎ (Within most rows cols → ⊥)
shape_or_none most rows cols = elim (below 0 rows) [
  | inr l ↦ inr (λ s. omega (arith, s.some_row))
  | inl l ↦ elim (below most rows) [
    | inl m ↦ inr (λ s. omega (arith, s.rows_most))
    | inr m ↦ elim (below 0 cols) [
      | inr k ↦ inr (λ s. omega (arith, s.some_col))
      | inl k ↦ elim (below most cols) [
        | inl n ↦ inr (λ s. omega (arith, s.cols_most))
        | inr n ↦ inl (record { some_row = omega arith; rows_most = omega arith; some_col = omega arith; cols_most = omega arith })
      ]
    ]
  ]
]

pub in_tile_one : (rows cols n : ℕ) → AtMostOne (InTile rows cols n)
in_tile_one rows cols n a b x y = elim (shape_or_none 256 rows cols) [
  | inl s ↦ x.fits s ∙ sym (y.fits s)
  | inr s ↦ x.outside s ∙ sym (y.outside s)
]

-- a flat record says one thing only where the promise behind it admits one outcome
pub flat_one : {R : Type 0} {P : R → Type 0} (said_of : R → Reply) → AtMostOne P → (e f : R) (x y : Flat) → P e → P f → x ≡ flat (said_of e) → y ≡ flat (said_of f) → (x ≡ y) × (e ≡ f)
flat_one said_of one e f x y a b h k = let s = one e f a b in (h ∙ ap (λ r. flat (said_of r)) s ∙ sym k, s)

-- ---- of each operation

module _ (rows cols : ℕ) (grid counts : List ℕ) where
  pub count_call_one : (x y : Flat) (a b : List ℕ) → CountCall rows cols grid counts x a → CountCall rows cols grid counts y b → (x ≡ y) × (a ≡ b)
  count_call_one x y a b (s, p, h) (t, q, k) =
      let (same, e) = flat_one (λ e. e.said) (count_one rows cols grid counts) _ _ x y p q h k in (same, ap (λ e. e.counts) e)

  pub check_call_one : AtMostOne (CheckCall rows cols grid counts)
  check_call_one x y (s, p, h) (t, q, k) = (flat_one (λ s. s) (check_one rows cols grid counts) s t x y p q h k).0

  pub mend_call_one : (place code : ℕ) (x y : Flat) (g h a b : List ℕ) → MendCall rows cols grid counts place code x g a → MendCall rows cols grid counts place code y h b
      → (x ≡ y) × (g ≡ h) × (a ≡ b)
  mend_call_one place code x y g h a b (s, p, l) (t, q, k) =
      let (same, e) = flat_one (λ e. e.said) (mend_one rows cols grid counts place code) _ _ x y p q l k in (same, ap (λ e. e.grid) e, ap (λ e. e.counts) e)

pub record_call_one : (rows cols tile_row tile_col : ℕ) (grid bytes work1 work2 : List ℕ) (x y : Flat) (a a' b b' c c' : List ℕ)
    → RecordCall rows cols tile_row tile_col grid bytes work1 work2 x a b c → RecordCall rows cols tile_row tile_col grid bytes work1 work2 y a' b' c'
    → (x ≡ y) × (a ≡ a') × (b ≡ b') × (c ≡ c')
record_call_one rows cols tile_row tile_col grid bytes work1 work2 x y a a' b b' c c' (s, p, h) (t, q, k) =
    let (same, e) = flat_one (λ e. e.said) (record_one rows cols tile_row tile_col grid bytes work1 work2) _ _ x y p q h k in
    (same, ap (λ e. e.bytes) e, ap (λ e. e.work1) e, ap (λ e. e.work2) e)

pub finish_call_one : (rows cols : ℕ) (grid incoming counts work : List ℕ) (x y : Flat) (a a' b b' : List ℕ)
    → FinishCall rows cols grid incoming counts work x a b → FinishCall rows cols grid incoming counts work y a' b' → (x ≡ y) × (a ≡ a') × (b ≡ b')
finish_call_one rows cols grid incoming counts work x y a a' b b' (s, p, h) (t, q, k) =
    let (same, e) = flat_one (λ e. e.said) (finish_one rows cols grid incoming counts work) _ _ x y p q h k in (same, ap (λ e. e.counts) e, ap (λ e. e.work) e)

pub join_call_one : (tile_rows tile_cols : ℕ) (records incoming : List ℕ) (work : Work) (x y : Flat) (a a' : List ℕ) (b b' : Work)
    → JoinCall tile_rows tile_cols records incoming work x a b → JoinCall tile_rows tile_cols records incoming work y a' b' → (x ≡ y) × (a ≡ a') × (b ≡ b')
join_call_one tile_rows tile_cols records incoming work x y a a' b b' (s, p, h) (t, q, k) =
    let (same, e) = flat_one (λ e. e.said) (join_one tile_rows tile_cols records incoming work) _ _ x y p q h k in (same, ap (λ e. e.incoming) e, ap (λ e. e.work) e)
