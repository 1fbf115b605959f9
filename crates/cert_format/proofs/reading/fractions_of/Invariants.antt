use Rattle.std.proofs.Common.{◌≡◌, map}
use Rattle.serde_json.specs.View.{items_view}
use Rattle.cert_format.specs.Grammar.{each, fraction_in}
use Rattle.cert_format.proofs.EachLemmas.{rest_of}
use Rattle.cert_format.proofs.reading.fractions_of.Given as goal

-- the numbers so far, and those of the values that are left
abbrev pub invariant-loop-value : goal.invariant-loop-value
invariant-loop-value g l = each (fraction_in g.N.Exact.bound) (items_view l.values) ≡ rest_of (fraction_in g.N.Exact.bound) (map g.N.Exact.value l.numbers) l.values l.value-index
