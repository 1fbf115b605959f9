use Rattle.std.proofs.Common.{◌≡◌, ℕ, [], length, get_or}
use Rattle.net_paths.proofs.incidence.Incidence.new.Given as goal

abbrev pub invariant-loop-place : goal.invariant-loop-place
invariant-loop-place l = record { count : length l.lists.items ≡ l._place; empty : (p : ℕ) → get_or l.lists.items p [] ≡ [] }
