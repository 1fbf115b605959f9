use Rattle.std.proofs.Common.{ℕ, get_or, ◌+◌, ◌*◌, ◌≡◌, ◌∙◌, ap, arith, length, subst}
use Rattle.linear_dict.specs.Dictionaries.{Dictionary, IsDictionary, choice_of}
use Rattle.linear_dict.specs.Tables.{cell}
use Rattle.linear_dict.proofs.NameLemmas.{entry_at}
use Rattle.linear_dict.proofs.TableLemmas.{cell_read}
use Rattle.linear_dict.proofs.dict.Dict.entry.Goals as goal

pub returns-clause-value : goal.returns-clause-value
returns-clause-value g c =
    let v = c.self.view_is in
    let l : c.len.result ≡ length c.self.inside.others.items = Prim.omega (arith, c.len.ensures, c.self.inside.others.ok.0) in
    subst (λ (d : Dictionary). g.N.Exact.value c.index.result.now ≡ cell (length d.others) d.table c.args.r c.args.c) v
    (cell_read g.N.Exact.value c.self.inside.table.items (length c.self.inside.basics.items) (length c.self.inside.others.items) c.args.r c.args.c c.index.result.now
    c.self.invariant.1.table_count
    (let e : length c.self.inside.basics.items ≡ length c.args.self.now.basics = ap (λ (d : Dictionary). length d.basics) v in Prim.omega (arith, e, c.requires.row))
    (let e : length c.self.inside.others.items ≡ length c.args.self.now.others = ap (λ (d : Dictionary). length d.others) v in Prim.omega (arith, e, c.requires.column))
    (c.index.ensures ∙ ap (λ (n : ℕ). get_or c.self.inside.table.items (c.args.r * n + c.args.c) c.index.result.now) l))

pub returns-clause-entry : goal.returns-clause-entry
unfolding choice_of
returns-clause-entry g c =
    let d : IsDictionary c.args.self.now = subst IsDictionary c.self.view_is c.self.invariant.1 in
    returns-clause-value g c ∙ entry_at c.args.self.now d c.args.r c.args.c c.requires.row c.requires.column
