use Rattle.std.proofs.Common.{◌≡◌, ◌<◌, ℕ, [], true, map, get_or}
use Rattle.std.specs.Str.{bytes_eq}
use Rattle.csv_table.specs.Records.{first_of, records_in}
use Rattle.csv_table.proofs.Records.is_header.Given as goal

-- the names before this one are those of the first record
abbrev pub invariant-loop-col : goal.invariant-loop-col
invariant-loop-col l = (k : ℕ) → k < l.col → bytes_eq (get_or (first_of (records_in l.self)) k []) (get_or (map (λ f. f.now) l.header) k []) ≡ true
