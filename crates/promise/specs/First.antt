-- What a search for the first place that is not good answers: the place, or that each place is good.
-- Assumes nothing.
use Rattle.std.specs.Prelude.{Option, Some, None, ℕ, ◌<◌}
use Rattle.promise.specs.Links.{FirstNot}

abbrev pub Finds : ℕ → (ℕ → Type 0) → Option ℕ → Type 0
Finds n Good (Some p) = FirstNot n Good p
Finds n Good None = (q : ℕ) → q < n → Good q
