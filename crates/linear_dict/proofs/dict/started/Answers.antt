use Rattle.std.proofs.Common.{◌≡◌, ◌∙◌, ℕ, List, arith, ap, sym, subst, length, take, refl}
use Rattle.std.proofs.lemmas.List.{length-take, take_more}
use Rattle.linear_dict.specs.declared.index.Variable.{Variable}
use Rattle.linear_dict.specs.declared.place.Place.TheVariants.{Column, Row}
use Rattle.linear_dict.specs.Indexes.{IsStartedIndex, AddsVariable}
use Rattle.linear_dict.proofs.StartLemmas.{started_absent, started_one, started_more}
use Rattle.linear_dict.proofs.dict.started.Goals as goal

pub loop-c-init : goal.loop-c-init
loop-c-init g c =
    let v : Variable g.row.N.Denot = record { name = c.args.row; place = Row 0; put = Row 0; note = c.blank_note-note.result } in (
      started_one g.N.Exact.value c.add_variable.new.variables.items v
          (subst (λ (vs : List (Variable g.row.N.Denot)). AddsVariable vs v c.add_variable.new.variables.items) c.new-variables.ensures.items c.in_ok-add_variable.ensures.added)
          refl refl c.blank_note-note.ensures,
      c.add_variable.ensures.named,
    )

pub add_variable-requires-in-loop-c-clause-ascending : goal.add_variable-requires-in-loop-c-clause-ascending
add_variable-requires-in-loop-c-clause-ascending g c = c.loop-c.invariant.0.ascending

pub add_variable-requires-in-loop-c-clause-named : goal.add_variable-requires-in-loop-c-clause-named
add_variable-requires-in-loop-c-clause-named g c = c.loop-c.invariant.1

pub add_variable-requires-in-loop-c-clause-absent : goal.add_variable-requires-in-loop-c-clause-absent
add_variable-requires-in-loop-c-clause-absent g c =
    started_absent g.N.Exact.value c.loop-c.variables.items c.args.row c.loop-c.c _ c.args.columns.now c.requires.distinct c.requires.absent c.loop-c-test.true refl c.loop-c.invariant.0

pub loop-c-preserved : goal.loop-c-preserved
loop-c-preserved g c =
    let columns : List ℕ = c.args.columns.now in
    let done : length (take c.loop-c.c columns) ≡ c.loop-c.c = length-take c.loop-c.c columns ∙ Prim.omega (arith, c.loop-c-test.true) in (
      subst (IsStartedIndex g.N.Exact.value c.add_variable-in-loop-c.new.variables.items c.args.row) (sym (take_more columns c.loop-c.c 0 c.loop-c-test.true))
          (started_more g.N.Exact.value c.loop-c.variables.items c.add_variable-in-loop-c.new.variables.items _ c.args.row (take c.loop-c.c columns) c.loop-c.invariant.0 c.in_ok-add_variable-2.ensures.added
          (started_absent g.N.Exact.value c.loop-c.variables.items c.args.row c.loop-c.c _ columns c.requires.distinct c.requires.absent c.loop-c-test.true refl c.loop-c.invariant.0)
          (ap Column (sym done)) (ap Column (sym done)) c.blank_note-note.ensures),
      c.add_variable-in-loop-c.ensures.named,
    )
