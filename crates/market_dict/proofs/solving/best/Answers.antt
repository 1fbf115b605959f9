use Rattle.std.proofs.Common.{List, ap₂, refl}
use Rattle.fraction_theory.specs.Fraction.{Fraction}
use Rattle.linear_dict.specs.Dictionaries.{choice_of}
use Rattle.market_model.specs.Dispatch.{dispatch_with}
use Rattle.market_dict.proofs.FirstLemmas.{solved_by}
use Rattle.market_dict.proofs.solving.best.Goals as goal

pub dispatch-requires-clause-holds : goal.dispatch-requires-clause-holds
dispatch-requires-clause-holds g c = let b = c.requires.best in (b.0, b.1.0)

pub reserved-requires-clause-holds : goal.reserved-requires-clause-holds
reserved-requires-clause-holds g c = let b = c.requires.best in (b.0, b.1.0)

pub returns : goal.returns
returns g c = λ ts best. (
  best,
  solved_by c.args.market.now ts c.args.dict c.lines-lines.ensures.market best _
      (ap₂ (λ (xs ys : List Fraction). dispatch_with xs ys) (c.in_ok-dispatch.ensures ts best.0) (c.in_ok-reserve.ensures ts best.0)),
)
