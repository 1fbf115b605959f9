use Rattle.std.proofs.Common.{◌≡◌, map}
use Rattle.report_text.proofs.ReportLemmas.{own_from}
use Rattle.report_text.proofs.answer.own_of.Given as goal

-- no outage so far loses the unit
abbrev pub invariant-loop-outage : goal.invariant-loop-outage
invariant-loop-outage g l =
    let owns = map g.N.Exact.value l.answer.money.own in
    own_from l.market.unit_outages owns l.place 0 ≡ own_from l.market.unit_outages owns l.place l.outage
