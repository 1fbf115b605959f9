use Rattle.std.specs.Prelude.{[]}
use Rattle.std.proofs.Common.{arith, inl, inr, ◌∙◌}
use Rattle.fraction_theory.proofs.SignLaws.{not_nil_by_sign}
use Rattle.clear_loop.proofs.MarginLemmas.{holds_exchanged}
use Rattle.clear_loop.proofs.merit.start_at_margin.Goals as goal

pub pivot-requires : goal.pivot-requires
pivot-requires g c = record {
  live = c.in_ok-dict.ensures.holds.live;
  row = omega (arith, c.if-row_count-eq0.false, c.row_count.ensures);
  column = omega (arith, c.if-column-column_count.false, c.column_count.ensures);
  entry = λ nil. not_nil_by_sign (g.N.Exact.value c.entry.result) c.sign.result c.sign.ensures
      (λ zero. elim c.in-Below.is [
        | inl below ↦ absurd (Prim.cc (below, zero))
        | inr above ↦ absurd (Prim.cc (above, zero))
      ]) (c.entry.ensures.value ∙ nil);
}

pub returns-in-Ok-clause-holds : goal.returns-in-Ok-clause-holds
returns-in-Ok-clause-holds g c = holds_exchanged c.args.market.now [] c.in_ok-dict.dict c.pivot.new.self 0 c.in-Some.column c.in_ok-dict.ensures.holds c.in-Ok.ensures.pivoted c.in-Ok.ensures.sound
