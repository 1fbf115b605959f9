use Rattle.std.proofs.Common.{rules, ◌≡◌, Err, subst, sym}
use Rattle.std.specs.Prelude.{All}
use Rattle.outage_list.specs.Listing.{IsOutage}
use Rattle.factor_maker.proofs.ColumnSteps.{outage_more, outage_refused}
use Rattle.factor_maker.proofs.losing.records_of.Goals as goal

pub add_outage-requires-clause-sound : goal.add_outage-requires-clause-sound
add_outage-requires-clause-sound c =
    let all : All (IsOutage c.args.network.now) c.slice-outage-items.result.now = subst (All (IsOutage c.args.network.now)) (sym c.slice-outage-items.ensures) c.requires.outages in
    record {
      network_is = c.requires.network;
      reactances = c.requires.reactances;
      positive = c.requires.positive;
      joined = (c.requires.joined, all c.loop-outage.outage-index 0 c.loop-outage-test.true);
    }

pub returns-in_err-add_outage-clause-stop : goal.returns-in_err-add_outage-clause-stop
returns-in_err-add_outage-clause-stop c =
    let given : c.from_residual.result ≡ Err c.in_err-add_outage.field-0.0 = search rules in
    outage_refused _ 170141183460469231731687303715884105727 c.args.network.now c.args.reactances.now c.args.outages.now c.slice-outage-items.result.now c.loop-outage.outage-index c.slice-outage-items.ensures
    c.loop-outage-test.true c.from_residual.result c.in_err-add_outage.field-0.0 given c.in_err-add_outage.ensures.stop

pub loop-outage-preserved : goal.loop-outage-preserved
loop-outage-preserved c =
    outage_more c.args.network.now c.args.reactances.now c.args.places c.args.outages.now c.slice-outage-items.result.now c.loop-outage.outage-index c.loop-outage.records c.add_outage.new.records
    c.slice-outage-items.ensures c.loop-outage-test.true c.loop-outage.invariant c.in_ok-add_outage.ensures.added
