use Rattle.std.proofs.Common.{◌∙◌, ℕ, List, ap, sym}
use Rattle.std.specs.Map.{lookup}
use Rattle.market_model.specs.declared.answered.Dual.{Dual}
use Rattle.market_model.specs.declared.answered.RowId.{RowId}
use Rattle.market_model.specs.LimitRows.{row_id}
use Rattle.cert_format.specs.Certificates.{name_of, same_triple}
use Rattle.cert_verify.proofs.NamingLemmas.{named_is, not_named}
use Rattle.cert_verify.proofs.naming.named_at.Goals as goal

pub returns-in-Some : goal.returns-in-Some
returns-in-Some g c = λ ds energy reserve_price rooms is.
    let m = c.args.market.now in
    named_is g.N.Exact.value m ds energy reserve_price rooms c.args.row c.in-Some.dual
    (ap (λ (es : List ((ℕ × ℕ × ℕ) × Dual g.row.N.Denot)). lookup (same_triple (name_of (row_id m c.args.row))) es) (sym is)
    ∙ ap (λ (n : RowId). lookup (same_triple (name_of n)) c.args.duals.now.entries) (sym c.name_at.ensures) ∙ sym c.dual_of.ensures ∙ c.in-Some.is)

pub returns-in-None : goal.returns-in-None
returns-in-None g c = λ ds energy reserve_price rooms is.
    let m = c.args.market.now in
    not_named g.N.Exact.value (row_id m c.args.row) ds
    (ap (λ (es : List ((ℕ × ℕ × ℕ) × Dual g.row.N.Denot)). lookup (same_triple (name_of (row_id m c.args.row))) es) (sym is)
    ∙ ap (λ (n : RowId). lookup (same_triple (name_of n)) c.args.duals.now.entries) (sym c.name_at.ensures) ∙ sym c.dual_of.ensures ∙ c.in-None.is)
