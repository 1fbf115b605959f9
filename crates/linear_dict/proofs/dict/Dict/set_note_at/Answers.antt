use Rattle.std.proofs.Common.{◌<◌, ◌∙◌, ◌≡◌, false, true, ℕ, List, ap, arith, get_or, length, refl, slice_set, subst, sym}
use Rattle.std.proofs.lemmas.List.{length-map}
use Rattle.linear_dict.specs.Dictionaries.{Dictionary, IsDictionary, seen, with_note}
use Rattle.linear_dict.specs.Notes.{noted}
use Rattle.linear_dict.specs.Indexes.{name_of}
use Rattle.linear_dict.specs.declared.index.Variable.{Variable}
use Rattle.linear_dict.proofs.NoteLemmas.{noted_dictionary}
use Rattle.linear_dict.proofs.IndexLemmas.{rank_place, seen_note, with_note_index}
use Rattle.linear_dict.proofs.dict.Dict.set_note_at.Goals as goal
use Rattle.std.proofs.Math.Seq.{map-set_same}

pub invariant_of-self : goal.invariant_of-self
invariant_of-self g c =
    let s = c.self.inside in
    let vs : List (Variable g.row.N.Denot) = c.self.inside.variables.items in
    let l = ap (λ (d : Dictionary). length d.names) c.self.view_is in
    let below : c.args.rank < length vs = Prim.omega (arith, l, length-map vs (name_of {N = g.row.N.Denot}), c.requires.within) in
    let was = c.index_mut.result.now in
    let now : Variable g.row.N.Denot = record { name = was.name; place = was.place; put = was.put; note = c.args.note } in (
      with_note_index vs c.args.rank was now s.basics.items s.others.items s.rows.items s.columns.items below c.index_mut.ensures.value refl refl refl c.self.invariant.0,
      subst IsDictionary (seen_note g.N.Exact.value s.columns.items s.rows.items s.coefficients.items s.others.items s.basics.items s.table.items vs s.spent c.args.rank was now c.index_mut.ensures.value refl)
          (noted_dictionary _ c.args.rank (noted g.N.Exact.value c.args.note) c.self.invariant.1),
      c.self.invariant.2 ∙ sym (map-set_same name_of vs c.args.rank now was (ap name_of c.index_mut.ensures.value)),
      c.self.invariant.3,
      λ told. let no : false ≡ true = told in absurd Prim.cc,
    )

pub returns : goal.returns
unfolding with_note
returns g c =
    let s = c.self.inside in
    let vs : List (Variable g.row.N.Denot) = c.self.inside.variables.items in
    let l = ap (λ (d : Dictionary). length d.names) c.self.view_is in
    let below : c.args.rank < length vs = Prim.omega (arith, l, length-map vs (name_of {N = g.row.N.Denot}), c.requires.within) in
    let was = c.index_mut.result.now in
    let now : Variable g.row.N.Denot = record { name = was.name; place = was.place; put = was.put; note = c.args.note } in
    let d : Dictionary = seen g.N.Exact.value s.columns.items s.rows.items s.coefficients.items s.others.items s.basics.items s.table.items vs s.spent in
    sym (seen_note g.N.Exact.value s.columns.items s.rows.items s.coefficients.items s.others.items s.basics.items s.table.items vs s.spent c.args.rank was now c.index_mut.ensures.value refl)
    ∙ ap (λ (k : ℕ). record d { notes = slice_set d.notes k (noted g.N.Exact.value c.args.note) }) (sym (rank_place vs c.args.rank below c.self.invariant.1.ascending))
    ∙ ap (λ (d : Dictionary). with_note d (get_or d.names c.args.rank 0) (noted g.N.Exact.value c.args.note)) c.self.view_is
