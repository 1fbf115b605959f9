use Rattle.std.proofs.Common.{◌≡◌, map, take}
use Rattle.serde_json.specs.View.{view}
use Rattle.cert_format.specs.Written.{fraction_data}
use Rattle.cert_format.proofs.writing.fractions_value.Given as goal

-- the values so far are those of the numbers before this one
abbrev pub invariant-loop-number : goal.invariant-loop-number
invariant-loop-number g l = map view l.values.items ≡ map (λ x. fraction_data (g.N.Exact.value x)) (take l.number-index l.numbers)
