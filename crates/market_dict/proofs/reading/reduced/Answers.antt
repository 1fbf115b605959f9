use Rattle.std.proofs.Common.{◌≡◌, ◌<◌, ◌+◌, ◌∙◌, List, map, take, ap, subst, sym, length, arith}
use Rattle.linear_dict.specs.Dictionaries.{note_of}
use Rattle.linear_dict.specs.Notes.{Noted}
use Rattle.market_dict.proofs.ListedLemmas.{names_filled, names_all}
use Rattle.market_dict.proofs.reading.reduced.Goals as goal

pub loop-rank-preserved : goal.loop-rank-preserved
loop-rank-preserved g c =
    let d = c.args.dict.now in
    let k = c.loop-rank.rank in
    let lt : k < length d.names = omega (arith, c.loop-rank-test.true, c.name_count-rank-end.ensures) in
    subst (λ (xs : List g.row.N.Denot). map g.N.Exact.value xs ≡ map (λ w. (note_of d w).reduced) (take (k + 1) d.names)) (sym c.in_ok-push.ensures)
    (names_filled g.N.Exact.value (λ w. (note_of d w).reduced) d.names c.loop-rank.prices k c.note_at.result.reduced lt c.loop-rank.invariant (ap Noted.reduced c.note_at.ensures))

pub returns : goal.returns
returns g c =
    let d = c.args.dict.now in
    c.loop-rank.invariant ∙ names_all (λ w. (note_of d w).reduced) d.names c.loop-rank.rank (omega (arith, c.loop-rank-test.false, c.name_count-rank-end.ensures))
