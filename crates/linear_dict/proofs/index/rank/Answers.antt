use Rattle.std.proofs.Common.{sym, Ok, Err}
use Rattle.fraction_theory.proofs.ListSums.{Distinct-increasing}
use Rattle.linear_dict.proofs.NameLemmas.{found, not_found, place_in-at}
use Rattle.linear_dict.proofs.index.rank.Goals as goal

pub unreachable-requires : goal.unreachable-requires
unreachable-requires c =
    let h = found c.args.names.now c.args.name (Err c.in-Err.field-0) c.in-Err.ensures.position c.requires.ascending in
    not_found c.args.names.now c.args.name c.in-Err.field-0 c.requires.named h.1 h.2

pub returns-clause-place : goal.returns-clause-place
returns-clause-place c =
    let h = found c.args.names.now c.args.name (Ok c.in-Ok.rank) c.in-Ok.ensures.position c.requires.ascending in
    sym (place_in-at c.args.names.now c.in-Ok.rank c.args.name (Distinct-increasing c.args.names.now c.requires.ascending) h.0 h.1)
