-- The version of the interface that C and Rust call.
-- Assumes nothing.
use Rattle.std.specs.Prelude.{ℕ}

-- raised by one whenever a function, a reply or a length that C sees changes; include/drainage.h and rust/src/version.rs have the same number
abbrev pub version : ℕ
version = 1
