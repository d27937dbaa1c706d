-- What the functions that write with a writer ask of their callers, and what they promise them. Nothing here is cited by a public promise.
-- Assumes nothing.
use Rattle.std.specs.Prelude.{List, ◌≡◌, ℕ, ◌+◌, ◌≤◌, length}
use Rattle.writer.specs.Wrote.{Wrote}
use Rattle.writer.specs.declared.Writer.{Writer}

-- n bytes more go into the buffer
abbrev pub Room : ℕ → Writer → Type 0
Room n w = w.at + n ≤ length w.out.now

-- these bytes have been written, into the same buffer
pub record Writes (bytes : List ℕ) (before after : Writer) : Type 0 where
  pub same_buffer : after.out.ghost_name ≡ before.out.ghost_name
  pub wrote : Wrote bytes before.out.now before.at after.out.now after.at
