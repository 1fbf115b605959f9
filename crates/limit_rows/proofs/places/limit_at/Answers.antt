use Rattle.std.proofs.Common.{rules, ◌≡◌, ◌≤ℤ◌, ◌∙◌, ℤ, pos, w64, to_z, of_z, ap, sym, subst}
use Rattle.fraction_theory.specs.Fraction.{whole}
use Rattle.limit_rows.proofs.LineLemmas.{limit_here, line_is, stated_least}
use Rattle.market_model.specs.LimitRows.{stated}
use Rattle.std.specs.Prelude.{unwrap_or}
use Rattle.limit_rows.proofs.places.limit_at.Goals as goal

given : (c : goal.After-unwrap_or) → to_z w64 (of_z w64 c.unwrap_or.result) ≡ unwrap_or (stated c.at.result.now c.args.row.cause) (pos 0)
given c =
    let same : to_z w64 (of_z w64 c.unwrap_or.result) ≡ c.unwrap_or.result = search rules in
    same ∙ c.unwrap_or.ensures ∙ ap (λ mw. unwrap_or mw (pos 0)) c.stated.ensures

pub returns-clause-sign : goal.returns-clause-sign
returns-clause-sign c =
    subst (λ (mw : ℤ). pos 0 ≤ℤ mw) (sym (given c))
    (stated_least c.at.result.now (line_is c.args.market.now c.lines.result.now c.args.row.line c.at.result.now c.lines.ensures.list c.at.ensures c.lines.ensures.market) c.args.row.cause)

pub returns-clause-limit : goal.returns-clause-limit
returns-clause-limit c =
    ap whole (given c) ∙ limit_here c.args.market.now c.lines.result.now c.args.row.line c.at.result.now c.lines.ensures.list c.at.ensures c.args.row.cause
