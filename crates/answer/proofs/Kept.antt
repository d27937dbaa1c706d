-- A code that no byte holds is kept as another bad code, and what is said of the codes is the same.
-- Assumes nothing.
use mathlib.Core.Bool.{false, true≢false}
use mathlib.Core.List.{List, map}
use mathlib.Core.Logic.{inl, inr}
use mathlib.Core.Path.{◌≡◌, refl, sym, ap, ◌∙◌}
use Prim.Native.Nat.{ℕ, ◌*◌, ◌<◌, ◌≤◌}
use native.Mathlib.Omega.{arith}
use lib.ListN.{length, length-map, get_or-map}
use lib.Seq.{ext_get_or}
use borrow.Author.Tests.{lt-ltb, le-ltb, ne_eqb}
use Rattle.promise.specs.Links.UnlessAll.{refused_at, met_all}
use Rattle.sheet.specs.Compass.{is_arrow, is_absent, is_code, line_of}
use Rattle.sheet.specs.Sheet.{CodeOk, code_at}
use Rattle.text.specs.Read.{kept}
use Rattle.std.proofs.lemmas.Bool.{cases_lt}
use Rattle.answer.specs.Answer.{Told}

kept_small : (c : ℕ) → c < 256 → kept c ≡ c
unfolding kept
kept_small c h = rw (lt-ltb c 256 h)

kept_large : (c : ℕ) → 256 ≤ c → kept c ≡ 3
unfolding kept
kept_large c h = rw (le-ltb c 256 h)

-- a code above 255 is a bad code
pub large_bad : (c : ℕ) → 256 ≤ c → is_code c ≡ false
unfolding is_code is_arrow is_absent line_of
large_bad c h =
    rw (
      ne_eqb 1 c (λ e. omega arith),
      ne_eqb 2 c (λ e. omega arith),
      ne_eqb 4 c (λ e. omega arith),
      ne_eqb 8 c (λ e. omega arith),
      ne_eqb 16 c (λ e. omega arith),
      ne_eqb 32 c (λ e. omega arith),
      ne_eqb 64 c (λ e. omega arith),
      ne_eqb 128 c (λ e. omega arith),
      ne_eqb c 0 (λ e. omega arith),
      ne_eqb c 255 (λ e. omega arith),
    )

three_bad : is_code 3 ≡ false
unfolding is_code is_arrow is_absent line_of
three_bad = refl

pub kept_code : (c : ℕ) → is_code (kept c) ≡ is_code c
kept_code c =
    elim (cases_lt c 256) [
      | inl l ↦ ap is_code (kept_small c l)
      | inr l ↦ ap is_code (kept_large c l) ∙ three_bad ∙ sym (large_bad c l)
    ]

module _ (codes : List ℕ) where
  kept_at : (q : ℕ) → code_at (map kept codes) q ≡ kept (code_at codes q)
  kept_at q = unfold kept in get_or-map kept codes q 255

  ok_kept : (q : ℕ) → CodeOk codes q → CodeOk (map kept codes) q
  ok_kept q h = ap is_code (kept_at q) ∙ kept_code (code_at codes q) ∙ h

  kept_ok : (q : ℕ) → CodeOk (map kept codes) q → CodeOk codes q
  kept_ok q h = sym (ap is_code (kept_at q) ∙ kept_code (code_at codes q)) ∙ h

  -- where no code is bad, each is kept as it is
  all_kept : ((q : ℕ) → q < length codes → CodeOk codes q) → map kept codes ≡ codes
  all_kept h =
      ext_get_or 255 (map kept codes) codes (length-map codes kept) (λ q l.
      let inside : q < length codes = omega (arith, length-map codes kept) in
      kept_at q ∙ elim (cases_lt (code_at codes q) 256) [
        | inl s ↦ kept_small (code_at codes q) s
        | inr s ↦ absurd (true≢false (sym (h q inside) ∙ large_bad (code_at codes q) s))
      ])

  pub kept_told : (rows cols : ℕ) (said : List ℕ) → length codes ≡ rows * cols → Told rows cols (map kept codes) said → Told rows cols codes said
  kept_told rows cols said long (refused_at p f r) =
      refused_at p (record { inside = f.inside; here = λ h. f.here (ok_kept p h); before = λ q l. kept_ok q (f.before q l) }) r
  kept_told rows cols said long (met_all a x) =
      let all : (q : ℕ) → q < rows * cols → CodeOk codes q = λ q l. kept_ok q (a q l) in
      met_all all (rw (all_kept (λ q l. all q (omega arith))) at x)
