-- The loop of `listed_net::arrows::gather`: what the cells passed hold is gathered.
use Rattle.std.proofs.Common.{ℕ, length}
use Rattle.listed_net.specs.Method.{Tells, Gathered}
use Rattle.listed_net.proofs.arrows.gather.Given as goal

abbrev pub invariant-loop-q : goal.invariant-loop-q
invariant-loop-q g l = (held : ℕ → ℕ) → Tells (length l.to) (goal.F-post g l.held_by) held → Gathered l.to held l.sums l.q
