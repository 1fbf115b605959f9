use Rattle.std.proofs.Common.{◌≡◌, ◌++◌, ◌∙◌, ap, subst, sym}
use Rattle.market_model.specs.Valued.{total_at}
use Rattle.command_answers.specs.Rights.{TellsFit}
use Rattle.command_answers.specs.Tellings.{telling_of, uncertified}
use Rattle.command_answers.proofs.rights.fit_told.Goals as goal

pub returns-clause-tells : goal.returns-clause-tells
returns-clause-tells g c =
    let reported = c.args.reported.now in
    let status = c.in_ok-status.status in
    let tells = TellsFit g.N.Exact.bound c.args.market.now c.args.rights.now (total_at g.N.Exact.value c.args.prices.now) in
    let begun : c.word.new.self ≡ reported = c.in_ok-word.ensures ∙ ap (λ t. t ++ reported) c.new-text.ensures in
    let is : telling_of c.uncertified.result ≡ uncertified status c.put_fit.new.text = c.uncertified.ensures.telling ∙ ap (uncertified status) c.into_bytes.ensures in
    subst (tells reported) (sym is) (subst (λ r. tells r (uncertified status c.put_fit.new.text)) begun c.in_ok-status.ensures.tells)
