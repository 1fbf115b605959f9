use Rattle.std.proofs.Common.{Err, ap, ◌≡◌, ◌∙◌, true, false, sym}
use Rattle.std.proofs.lemmas.Result.{err_from_is_err_and}
use Rattle.clear_loop.proofs.StartLemmas.{cold_stop, started_cold}
use Rattle.clear_loop.proofs.clearer.warmed.Goals as goal

pub returns-in_ok-start_at_margin-clause-start : goal.returns-in_ok-start_at_margin-clause-start
returns-in_ok-start_at_margin-clause-start g c = λ k same fits.
    started_cold c.args.market.now k c.args.warm same fits (λ s. let wrong : true ≡ false = sym (c.is_kept.ensures.1 s) ∙ c.if-is_kept.false in absurd cc)
    c.started.result c.in_ok-start_at_margin.field-0 c.started.ensures c.in_ok-start_at_margin.ensures.holds

pub returns-in_err-start_at_margin-clause-stops : goal.returns-in_err-start_at_margin-clause-stops
returns-in_err-start_at_margin-clause-stops g c = λ k same fits.
    let p = err_from_is_err_and c.from_residual.result c.from_residual.ensures.1 in
    let given : c.from_residual.result ≡ Err c.in_err-start_at_margin.field-0.0 = p.1 ∙ ap Err p.2 in
    rw given
    (cold_stop c.args.market.now k c.args.warm same fits (λ s. let wrong : true ≡ false = sym (c.is_kept.ensures.1 s) ∙ c.if-is_kept.false in absurd cc)
    g.N.Exact.value g.N.Exact.bound c.in_err-start_at_margin.field-0.0 c.in_err-start_at_margin.ensures.pair)
