use Rattle.std.proofs.Common.{◌≡◌, ap, arith, false, length, true}
use Rattle.linear_dict.proofs.StartLemmas.{start_in_code}
use Rattle.linear_dict.proofs.dict.Dict.start.Goals as goal

pub invariant_of-result : goal.invariant_of-result
invariant_of-result g c =
    let p = start_in_code g.N.Exact.value c.in_ok-names.variables.items c.args.columns.now c.args.row c.args.entries.now
    c.in_ok-copied.field-0.items c.in_ok-copied-2.field-0.items c.in_ok-copied-3.field-0.items c.in_ok-copied-4.field-0.items c.in_ok-copied-5.field-0.items c.in_ok-copied-6.field-0.items
    c.in_ok-copied.ensures c.in_ok-copied-2.ensures c.in_ok-copied-3.ensures c.in_ok-copied-4.ensures c.in_ok-copied-5.ensures c.in_ok-copied-6.ensures c.requires.entries c.in_ok-names.ensures.index in
    (p.0, p.1.sound, c.in_ok-names.ensures.named, Prim.omega (arith, ap length c.in_ok-copied-4.ensures, c.in-Ok.ensures.exact), λ told. let no : false ≡ true = told in absurd Prim.cc)

pub returns : goal.returns
returns g c =
    (start_in_code g.N.Exact.value c.in_ok-names.variables.items c.args.columns.now c.args.row c.args.entries.now
    c.in_ok-copied.field-0.items c.in_ok-copied-2.field-0.items c.in_ok-copied-3.field-0.items c.in_ok-copied-4.field-0.items c.in_ok-copied-5.field-0.items c.in_ok-copied-6.field-0.items
    c.in_ok-copied.ensures c.in_ok-copied-2.ensures c.in_ok-copied-3.ensures c.in_ok-copied-4.ensures c.in_ok-copied-5.ensures c.in_ok-copied-6.ensures c.requires.entries c.in_ok-names.ensures.index).1
