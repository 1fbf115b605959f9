use Rattle.std.proofs.Common.{◌≡◌, map, take, All}
use Rattle.serde_json.specs.View.{view}
use Rattle.market_model.specs.Valued.{dual_at}
use Rattle.cert_format.specs.Certificates.{RowFits}
use Rattle.cert_format.specs.Written.{limit_data}
use Rattle.cert_format.proofs.writing.limits_value.Given as goal

-- the values so far are those of the limits before this one, whose rows have 32 bits
abbrev pub invariant-loop-dual : goal.invariant-loop-dual
invariant-loop-dual g l = record {
  values : map view l.values.items ≡ map (λ d. limit_data (dual_at g.N.Exact.value d)) (take l.dual-index l.limits);
  rows : All (λ d. RowFits d.row) (take l.dual-index l.limits);
}
