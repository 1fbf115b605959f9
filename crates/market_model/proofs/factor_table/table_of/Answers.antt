use Rattle.std.proofs.Common.{pos, w64, get_or}
use Rattle.std.proofs.lemmas.Int.{to_z-of_z}
use mir.Val.{SFits}
use Rattle.market_model.specs.declared.participants.Factor.{Factor}
use Rattle.market_model.specs.Market.{IsTableFactor}
use Rattle.market_model.proofs.TableLemmas.{table_more, factor_fits}
use Rattle.market_model.proofs.factor_table.table_of.Goals as goal

pub loop-factor-preserved : goal.loop-factor-preserved
loop-factor-preserved c =
    let none : Factor = record { line = 0; of = 0; value = pos 0 } in
    let is : IsTableFactor c.args.lines c.args.others (get_or c.args.factors.now c.loop-factor.factor-index none) = c.requires.factors.each c.loop-factor.factor-index none c.loop-factor-test.true in
    let fits : SFits w64 (get_or c.args.factors.now c.loop-factor.factor-index none).value = factor_fits (get_or c.args.factors.now c.loop-factor.factor-index none).value is.size in
    let value = to_z-of_z w64 (get_or c.args.factors.now c.loop-factor.factor-index none).value fits in
    record { table = rw value (table_more c.args.lines c.args.others c.args.factors.now c.loop-factor.factor-index none c.loop-factor.table.items c.loop-factor-test.true c.requires.factors.distinct is.line is.of c.loop-factor.invariant.table) }
