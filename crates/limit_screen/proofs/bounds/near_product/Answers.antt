use Rattle.limit_screen.proofs.BoundLemmas.{near_by_part}
use Rattle.limit_screen.proofs.Casts.{product_is, product_up_to, size_is, size_up_to}
use Rattle.limit_screen.proofs.bounds.near_product.Goals as goal

pub returns-clause-near : goal.returns-clause-near
returns-clause-near c = λ x floor. near_by_part x c.args.part floor c.args.factor _
    (product_is c.args.factor c.args.part c.from.result c.from-2.result c.ranges.factor c.ranges.part c.from.ensures c.from-2.ensures)
    (size_is c.args.factor c.from-3.result c.unsigned_abs.result c.ranges.factor c.from-3.ensures c.unsigned_abs.ensures.value)

pub returns-clause-small : goal.returns-clause-small
returns-clause-small c = λ most few. record {
  number = product_up_to c.args.factor c.args.part c.from.result c.from-2.result c.ranges.factor c.ranges.part c.from.ensures c.from-2.ensures most few;
  off = size_up_to c.args.factor c.from-3.result c.unsigned_abs.result c.ranges.factor c.from-3.ensures c.unsigned_abs.ensures.value most few;
}
