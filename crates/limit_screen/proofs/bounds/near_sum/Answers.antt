use Rattle.limit_screen.proofs.BoundLemmas.{near_both}
use Rattle.limit_screen.proofs.Casts.{small_sum_is, small_sum_up_to}
use Rattle.limit_screen.proofs.bounds.near_sum.Goals as goal

pub returns-clause-near : goal.returns-clause-near
returns-clause-near c = λ x y first second. near_both x y c.args.first c.args.second _
    (small_sum_is c.args.first.number c.args.second.number c.requires.first.number c.requires.second.number)
    (small_sum_is c.args.first.off c.args.second.off c.requires.first.off c.requires.second.off)
    first second

pub returns-clause-small : goal.returns-clause-small
returns-clause-small c = record {
  number = small_sum_up_to c.args.first.number c.args.second.number c.requires.first.number c.requires.second.number;
  off = small_sum_up_to c.args.first.off c.args.second.off c.requires.first.off c.requires.second.off;
}
