-- Laws of lines of numbers, number by number.
-- Assumes nothing.
use Prim.Native.Nat.{ℕ, zero, suc, ◌+◌, ◌*◌, ◌-◌, ◌<◌, ◌≤◌}
use mathlib.Core.Path.{◌≡◌, refl, sym, ap, ap₂, ◌∙◌}
use mathlib.Core.List.{List, [], ◌∷◌, ◌++◌, map, map-append, append_assoc, append-nil}
use native.Mathlib.Omega.{arith}
use native.Mathlib.Numerals.{add-one}
use native.Mathlib.Nat.{suc-mul}
use lib.ListN.{length, replicate, length-replicate, get_or, take, drop, set, length-append, length-drop, length-map, drop_of_length-le}
use lib.Seq.{drop-cons, set_at}
use mathlib.Core.Bool.{cond}
use mathlib.Core.Logic.{inl, inr}
use lib.Dec.{leb}
use Rattle.std.proofs.lemmas.Bool.Decides.{nat_tests}
use Rattle.std.proofs.lemmas.Bool.{cases_lt}
use Rattle.text.specs.Text.{decimal, line, lines, Each, Short, StopsAt, Digit}
use Rattle.text.specs.Read.{Stuck, Rows, end_of, kept}
use Rattle.text.proofs.Decimal.{decimal_some, each_append}
use Rattle.text.proofs.Scan.{number_same, next_byte}
use Rattle.text.proofs.Stops.{stops_byte, stuck_stops, stops_same}

-- how many numbers the next one has to its right, in lines of c + 1
unfoldable pub turn : (c right : ℕ) → ℕ
turn c zero = c
turn c (suc right) = right

-- how many numbers number `col` of a line of c + 1 has to its right; behind the last, the first of the next line
unfoldable pub rights : (c col : ℕ) → ℕ
rights c col = cond (leb col c) (c - col) c

pub rights_first : (c : ℕ) → rights c 0 ≡ c
unfolding rights
rights_first c = grind (arith, nat_tests)

pub rights_in : (c col : ℕ) → col ≤ c → rights c col ≡ c - col
unfolding rights
rights_in c col h = grind (arith, nat_tests)

pub rights_end : (c : ℕ) → rights c (c + 1) ≡ c
unfolding rights
rights_end c = grind (arith, nat_tests)

turn_inner : (c right : ℕ) → 1 ≤ right → turn c right ≡ right - 1
unfolding turn
turn_inner c zero h = absurd (omega arith)
turn_inner c (suc right) h = omega arith

turn_last : (c : ℕ) → turn c 0 ≡ c
unfolding turn
turn_last c = refl

pub rights_next : (c col : ℕ) → col ≤ c → turn c (rights c col) ≡ rights c (col + 1)
rights_next c col h = elim (cases_lt col c) [
  | inl l ↦ rw (rights_in c col h, rights_in c (col + 1) (omega arith), turn_inner c (c - col) (omega arith)) (omega arith)
  | inr l ↦
      let last : col ≡ c = omega arith in
      rw (last, rights_in c c (omega arith), rights_end c) (let none : c - c ≡ 0 = omega arith in rw none (turn_last c))
]

-- numbers in lines of c + 1, from the one with `right` numbers to its right
pub flat : (c right : ℕ) → List ℕ → List ℕ
flat c right [] = []
flat c right (v ∷ vs) = decimal v ++ end_of right ∷ flat c (turn c right) vs

pub end_apart : (right : ℕ) → Digit (end_of right) → ⊥
unfolding end_of
end_apart zero d = omega arith
end_apart (suc right) d = omega arith

flat_line : (c r : ℕ) (xs : List ℕ) → r < length xs → flat c r xs ≡ line (take (suc r) xs) ++ flat c c (drop (suc r) xs)
unfolding flat line end_of turn
flat_line c r [] h = absurd (omega arith)
flat_line c zero (x ∷ xs) h = sym (append_assoc (decimal x) (10 ∷ []) (flat c c xs))
flat_line c (suc r) (x ∷ []) h = absurd (omega arith)
flat_line c (suc r) (x ∷ y ∷ ys) h =
    ap (λ (s : List ℕ). decimal x ++ 32 ∷ s) (flat_line c r (y ∷ ys) (omega arith)) ∙ sym (append_assoc (decimal x) (32 ∷ line (y ∷ take r ys)) (flat c c (drop r ys)))

pub flat_lines : (rows c : ℕ) (xs : List ℕ) → length xs ≡ rows * suc c → flat c c xs ≡ lines rows (suc c) xs
unfolding lines
flat_lines zero c [] h = unfold flat in refl
flat_lines zero c (x ∷ xs) h = absurd (omega arith)
flat_lines (suc rows) c xs h =
    let more : length xs ≡ rows * suc c + suc c = h ∙ suc-mul rows (suc c) in
    flat_line c c xs (omega arith) ∙ ap (λ (s : List ℕ). line (take (suc c) xs) ++ s) (flat_lines rows c (drop (suc c) xs) (omega (arith, length-drop (suc c) xs)))

-- how far a body has been read: q numbers, up to `at`, and the grid holds them at its start
pub record Reached (c : ℕ) (bytes before grid : List ℕ) (right at q : ℕ) : Type 0 where
  pub us : List ℕ
  pub d : List ℕ
  pub short : Each Short us
  pub long : length us ≡ q
  pub inside : at ≤ length bytes
  pub splits : bytes ≡ d ++ drop at bytes
  pub to : (vs : List ℕ) → flat c c (us ++ vs) ≡ d ++ flat c right vs
  pub from : (s ws : List ℕ) → Each Short ws → d ++ s ≡ flat c c ws → (vs : List ℕ) × Each Short vs × (ws ≡ us ++ vs) × (s ≡ flat c right vs)
  pub stored : grid ≡ map kept us ++ drop q before

pub reached_none : (c : ℕ) (bytes grid : List ℕ) → Reached c bytes grid grid c 0 0
reached_none c bytes grid = record {
  us = [];
  d = [];
  short = tt;
  long = refl;
  inside = omega arith;
  splits = refl;
  to = λ vs. refl;
  from = λ s ws all e. (ws, all, refl, e);
  stored = refl;
}

pub flat_cons : (c right v : ℕ) (vs : List ℕ) → flat c right (v ∷ vs) ≡ decimal v ++ end_of right ∷ flat c (turn c right) vs
unfolding flat
flat_cons c right v vs = refl

pub flat_nil : (c right : ℕ) → flat c right [] ≡ []
unfolding flat
flat_nil c right = refl

-- a number and the byte after it stand at the front of such lines
peel : (c right v : ℕ) (s vs : List ℕ) → Each Short vs → decimal v ++ end_of right ∷ s ≡ flat c right vs
    → (ws : List ℕ) × Each Short ws × (vs ≡ v ∷ ws) × (s ≡ flat c (turn c right) ws)
peel c right v s [] all e = absurd (omega (arith, decimal_some v, simp length-append at (ap length (e ∙ flat_nil c right))))
peel c right v s (w ∷ ws) all e =
    let same = number_same (end_of right) v w s (flat c (turn c right) ws) (end_apart right) (e ∙ flat_cons c right w ws) in
    (ws, all.1, ap (λ (x : ℕ). x ∷ ws) (sym same.0), same.1)

pub reached_more : {c : ℕ} {bytes before grid : List ℕ} {right at q : ℕ} (v next : ℕ) → Reached c bytes before grid right at q → q < length before → Short v → next ≤ length bytes
    → drop at bytes ≡ decimal v ++ end_of right ∷ drop next bytes → Reached c bytes before (set grid q (kept v)) (turn c right) next (q + 1)
reached_more {c} {bytes} {before} {grid} {right} {at} {q} v next r room short inside e = record {
  us = r.us ++ v ∷ [];
  d = r.d ++ (decimal v ++ end_of right ∷ []);
  short = each_append Short r.us (v ∷ []) r.short (short, tt);
  long = omega (arith, length-append r.us (v ∷ []), r.long);
  inside = inside;
  splits = r.splits ∙ rw e (simp append_assoc);
  to = λ vs. rw (append_assoc r.us (v ∷ []) vs, r.to (v ∷ vs), flat_cons) (simp append_assoc);
  from = λ s ws all f.
      let g : r.d ++ (decimal v ++ end_of right ∷ s) ≡ flat c c ws = sym (simp append_assoc) ∙ f in
      let past = r.from (decimal v ++ end_of right ∷ s) ws all g in
      let here = peel c right v s past.0 past.1 past.3 in
      (here.0, here.1, past.2 ∙ ap (λ (x : List ℕ). r.us ++ x) here.2 ∙ sym (append_assoc r.us (v ∷ []) here.0), here.3);
  stored =
      let next : drop q before ≡ get_or before q 0 ∷ drop (q + 1) before = rw (add-one, drop-cons before q 0) in
      let placed : length (map kept r.us) ≡ q = length-map r.us kept ∙ r.long in
      rw (r.stored, next, set_at (map kept r.us) (get_or before q 0) (drop (q + 1) before) (kept v) q placed, map-append kept) (sym (append_assoc (map kept r.us) (kept v ∷ []) (drop (q + 1) before)));
}

pub reached_at : {c : ℕ} {bytes before grid : List ℕ} {right right' at q q' : ℕ} → right ≡ right' → q ≡ q' → Reached c bytes before grid right at q → Reached c bytes before grid right' at q'
reached_at e f r = rw (← e, ← f) r

pub zeros_short : (n : ℕ) → Each Short (replicate n 0)
zeros_short zero = tt
zeros_short (suc n) = (omega arith, zeros_short n)

-- the texts of a body: m numbers, in lines of c + 1
abbrev Numbers : (c m : ℕ) → List ℕ → Type 0
Numbers c m s = (codes : List ℕ) × Each Short codes × (length codes ≡ m) × (s ≡ flat c c codes)

module _ {c : ℕ} {bytes before grid : List ℕ} {right at q : ℕ} (m : ℕ) (r : Reached c bytes before grid right at q) where
  at_long : length r.d ≡ at
  at_long = omega (arith, simp (length-append, length-drop) at (ap length r.splits), r.inside)

  -- a number can be read next, and m numbers can be reached
  to_number : (more : ℕ) → q + suc more ≡ m → (v : ℕ) → Short v → (t : List ℕ) × Numbers c m (r.d ++ (decimal v ++ t))
  to_number more e v short = (
    end_of right ∷ flat c (turn c right) (replicate more 0),
    (
      r.us ++ v ∷ replicate more 0,
      each_append Short r.us (v ∷ replicate more 0) r.short (short, zeros_short more),
      omega (arith, length-append r.us (v ∷ replicate more 0), length-replicate {A = ℕ} more 0, r.long),
      sym (r.to (v ∷ replicate more 0) ∙ ap (λ (s : List ℕ). r.d ++ s) (flat_cons c right v (replicate more 0))),
    ),
  )

  from_number : q < m → (s : List ℕ) → Numbers c m (r.d ++ s) → (v : ℕ) × (z : List ℕ) × Short v × (s ≡ decimal v ++ end_of right ∷ z)
  from_number l s h =
      let past = r.from s h.0 h.1 h.3 in
      go past.0 past.1 (omega (arith, simp length-append at (ap length past.2), h.2, r.long)) past.3
    where
      go : (vs : List ℕ) → Each Short vs → 0 < length vs → s ≡ flat c right vs → (v : ℕ) × (z : List ℕ) × Short v × (s ≡ decimal v ++ end_of right ∷ z)
      go [] all some e = absurd (omega arith)
      go (v ∷ vs) all some e = (v, flat c (turn c right) vs, all.0, e ∙ flat_cons c right v vs)

pub flat_same : (c right : ℕ) (xs ys : List ℕ) → length xs ≡ length ys → flat c right xs ≡ flat c right ys → xs ≡ ys
flat_same c right [] [] l e = refl
flat_same c right [] (y ∷ ys) l e = absurd (omega arith)
flat_same c right (x ∷ xs) [] l e = absurd (omega arith)
flat_same c right (x ∷ xs) (y ∷ ys) l e =
    let same = number_same (end_of right) x y (flat c (turn c right) xs) (flat c (turn c right) ys) (end_apart right) (sym (flat_cons c right x xs) ∙ e ∙ flat_cons c right y ys) in
    ap₂ (λ (v : ℕ) (s : List ℕ). v ∷ s) same.0 (flat_same c (turn c right) xs ys (omega arith) same.1)

pub flat_rows : (rows cols : ℕ) (xs : List ℕ) → 1 ≤ cols → length xs ≡ rows * cols → flat (cols - 1) (cols - 1) xs ≡ lines rows cols xs
flat_rows rows cols xs h l =
    let e : suc (cols - 1) ≡ cols = omega arith in
    rw e at (flat_lines rows (cols - 1) xs (rw e l))

abbrev Bodies : (rows cols : ℕ) → List ℕ → Type 0
Bodies rows cols s = (codes : List ℕ) × Rows rows cols codes s

module _ (rows cols : ℕ) (some : 1 ≤ cols) {bytes before grid : List ℕ} {right at q : ℕ} (r : Reached (cols - 1) bytes before grid right at q) where
  bodies_stop : {k : ℕ} → StopsAt (Numbers (cols - 1) (rows * cols)) bytes k → StopsAt (Bodies rows cols) bytes k
  bodies_stop =
      stops_same (Numbers (cols - 1) (rows * cols)) (Bodies rows cols)
      (λ s h. (h.0, record { codes_short = h.1; codes_long = h.2; reads = h.3 ∙ flat_rows rows cols h.0 some h.2 }))
      (λ s h. (h.0, h.1.codes_short, h.1.codes_long, h.1.reads ∙ sym (flat_rows rows cols h.0 some h.1.codes_long)))

  pub reached_stuck : (k : ℕ) → q < rows * cols → at ≤ k → Stuck (end_of right) (drop at bytes) (k - at) → StopsAt (Bodies rows cols) bytes k
  reached_stuck k l past s =
      bodies_stop (stuck_stops (Numbers (cols - 1) (rows * cols)) (end_of right) r.d (end_apart right)
      (to_number (rows * cols) r (rows * cols - q - 1) (omega arith)) (from_number (rows * cols) r l)
      bytes (drop at bytes) (k - at) k s r.splits (omega (arith, at_long (rows * cols) r)))

  whole_reads : rows * cols ≡ q → r.d ≡ flat (cols - 1) (cols - 1) r.us
  whole_reads e = sym (rw (← append-nil r.us) (r.to [] ∙ ap (λ (s : List ℕ). r.d ++ s) (flat_nil (cols - 1) right) ∙ append-nil r.d))

  pub reached_extra : rows * cols ≡ q → at < length bytes → StopsAt (Bodies rows cols) bytes at
  reached_extra e l =
      let next : bytes ≡ r.d ++ get_or bytes at 0 ∷ drop (at + 1) bytes = r.splits ∙ ap (λ (s : List ℕ). r.d ++ s) (next_byte bytes at l) in
      let whole : Numbers (cols - 1) (rows * cols) r.d = (r.us, r.short, r.long ∙ sym e, whole_reads e) in
      let stop = stops_byte (Numbers (cols - 1) (rows * cols)) r.d (drop (at + 1) bytes) (get_or bytes at 0) ([], rw (append-nil r.d) whole) (λ t h. nothing_more (get_or bytes at 0) t h) in
      bodies_stop (rw (← next, at_long (rows * cols) r) at stop)
    where
      nothing_more : (b : ℕ) (t : List ℕ) → Numbers (cols - 1) (rows * cols) (r.d ++ b ∷ t) → ⊥
      nothing_more b t h =
          let past = r.from (b ∷ t) h.0 h.1 h.3 in
          go past.0 (omega (arith, simp length-append at (ap length past.2), h.2, r.long)) past.3
        where
          go : (vs : List ℕ) → length vs ≡ 0 → b ∷ t ≡ flat (cols - 1) right vs → ⊥
          go [] none f = omega (arith, ap length (f ∙ flat_nil (cols - 1) right))
          go (v ∷ vs) none f = omega arith

  pub reached_whole : rows * cols ≡ q → length bytes ≤ at → (codes : List ℕ) × Rows rows cols codes bytes × (grid ≡ map kept codes ++ drop (rows * cols) before)
  reached_whole e l =
      let long : length r.us ≡ rows * cols = r.long ∙ sym e in
      let all : bytes ≡ r.d = r.splits ∙ ap (λ (s : List ℕ). r.d ++ s) (drop_of_length-le bytes l) ∙ append-nil r.d in
      (r.us, record { codes_short = r.short; codes_long = long; reads = all ∙ whole_reads e ∙ flat_rows rows cols r.us some long }, rw e r.stored)
