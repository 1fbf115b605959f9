use Rattle.std.proofs.Common.{◌≡◌, map, true}
use Rattle.serde_json.specs.View.{items_view}
use Rattle.market_model.specs.Valued.{dual_at}
use Rattle.cert_format.specs.Grammar.{distinct, each, limit_in}
use Rattle.cert_format.proofs.EachLemmas.{rest_of}
use Rattle.cert_format.specs.Certificates.{name_of}
use Rattle.cert_format.proofs.reading.read_limits.Given as goal

-- the limits so far, with their rows, no two of which are one, and those of the values that are left
abbrev pub invariant-loop-value : goal.invariant-loop-value
invariant-loop-value g l = record {
  read : each (limit_in g.N.Exact.bound l.version) (items_view l.values) ≡ rest_of (limit_in g.N.Exact.bound l.version) (map (dual_at g.N.Exact.value) l.limits) l.values l.value-index;
  rows : l.rows.keys ≡ map (λ d. name_of d.row) l.limits;
  once : distinct (map (dual_at g.N.Exact.value) l.limits) ≡ true;
}
