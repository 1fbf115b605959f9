use Rattle.std.proofs.Common.{◌≡◌, ◌∙◌, ◌++◌, ◌∷◌, [], ℕ, List, arith, ap, subst, length, map}
use mathlib.Core.Path.{ap₂}
use Rattle.std.specs.List.{Contains}
use Rattle.linear_dict.specs.Dictionaries.{AddsColumn, Dictionary, IsDictionary, seen}
use Rattle.linear_dict.specs.ReducedPrices.{HasReducedPrices}
use Rattle.linear_dict.specs.Tables.{widened}
use Rattle.linear_dict.specs.declared.index.Variable.{Variable}
use Rattle.linear_dict.specs.declared.place.Place.TheVariants.{Column}
use Rattle.linear_dict.proofs.AddColumnLemmas.{add_column_in_code, index_with_column}
use Rattle.linear_dict.proofs.ReducedPriceLemmas.{reduced_with_column}
use Rattle.linear_dict.proofs.dict.Dict.add_column.Goals as goal

pub add_variable-requires-clause-absent : goal.add_variable-requires-clause-absent
add_variable-requires-clause-absent g c = λ m. c.requires.absent (subst (λ (d : Dictionary). Contains d.names c.args.column) c.self.view_is m)

pub returns : goal.returns
returns g c =
    let value = g.N.Exact.value in
    let s = c.self.inside in
    let vs : List (Variable g.row.N.Denot) = s.variables.items in
    let v : Variable g.row.N.Denot = record { name = c.args.column; place = Column c.len-others.result; put = Column c.len-columns.result; note = c.blank_note.result } in
    let new : Dictionary = seen value c.push_reserved.new.self.items s.rows.items c.widen_table.new.table.items c.push_reserved-2.new.self.items s.basics.items c.widen_table-2.new.table.items c.add_variable.new.variables.items s.spent in
    let rows : c.len-rows.result ≡ length s.rows.items = Prim.omega (arith, c.len-rows.ensures, s.rows.ok.0) in
    let columns : c.len-columns.result ≡ length s.columns.items = Prim.omega (arith, c.len-columns.ensures, s.columns.ok.0) in
    let basics : c.len-basics.result ≡ length s.basics.items = Prim.omega (arith, c.len-basics.ensures, s.basics.ok.0) in
    let others : c.len-others.result ≡ length s.others.items = Prim.omega (arith, c.len-others.ensures, s.others.ok.0) in
    subst (λ (d : Dictionary). AddsColumn d c.args.column new) c.self.view_is
    (add_column_in_code value s.columns.items s.rows.items s.coefficients.items s.others.items s.basics.items s.table.items vs s.spent c.self.invariant.1 (ap (λ (d : Dictionary). d.spent) c.self.view_is ∙ c.requires.live)
    c.add_variable.new.variables.items v c.in_ok-add_variable.ensures.added (λ m. c.requires.absent (subst (λ (d : Dictionary). Contains d.names c.args.column) c.self.view_is m)) c.blank_note.ensures
    c.push_reserved.new.self.items c.push_reserved-2.new.self.items c.widen_table.new.table.items c.widen_table-2.new.table.items
    (c.push_reserved.ensures.items ∙ ap (λ (xs : List ℕ). xs ++ c.args.column ∷ []) c.make_room_for_name.ensures.same)
    (c.push_reserved-2.ensures.items ∙ ap (λ (xs : List ℕ). xs ++ c.args.column ∷ []) c.make_room_for_name-2.ensures.same)
    (c.widen_table.ensures ∙ ap₂ (λ (m n : ℕ). widened m n (map value c.make_room_for_column.new.table.items)) rows columns
    ∙ ap (λ (xs : List g.row.N.Denot). widened (length s.rows.items) (length s.columns.items) (map value xs)) c.make_room_for_column.ensures.same)
    (c.widen_table-2.ensures ∙ ap₂ (λ (m n : ℕ). widened m n (map value c.make_room_for_column-2.new.table.items)) basics others
    ∙ ap (λ (xs : List g.row.N.Denot). widened (length s.basics.items) (length s.others.items) (map value xs)) c.make_room_for_column-2.ensures.same))

pub invariant_of-self-2 : goal.invariant_of-self-2
invariant_of-self-2 g c =
    let s = c.self.inside in
    let v : Variable g.row.N.Denot = record { name = c.args.column; place = Column c.len-others.result; put = Column c.len-columns.result; note = c.blank_note.result } in
    let place : c.len-others.result ≡ length s.others.items = Prim.omega (arith, c.len-others.ensures, s.others.ok.0) in
    let put : c.len-columns.result ≡ length s.columns.items = Prim.omega (arith, c.len-columns.ensures, s.columns.ok.0) in (
      index_with_column s.variables.items c.add_variable.new.variables.items v s.basics.items s.others.items s.rows.items s.columns.items c.push_reserved-2.new.self.items c.push_reserved.new.self.items
          c.in_ok-add_variable.ensures.added (ap Column place) (ap Column put)
          (c.push_reserved-2.ensures.items ∙ ap (λ (xs : List ℕ). xs ++ c.args.column ∷ []) c.make_room_for_name-2.ensures.same)
          (c.push_reserved.ensures.items ∙ ap (λ (xs : List ℕ). xs ++ c.args.column ∷ []) c.make_room_for_name.ensures.same) c.self.invariant.0,
      (returns g c).sound,
      c.add_variable.ensures.named,
      Prim.omega (
        arith,
        place,
        c.push_reserved-2.ensures.len,
        c.push_reserved-2.new.self.ok.0,
        ap length c.make_room_for_name-2.ensures.same,
        c.make_room_for_name-2.new.names.ok.0,
        c.in_ok-make_room_for_changes.ensures.room,
      ),
      λ told. reduced_with_column c.args.self.now
          (seen g.N.Exact.value c.push_reserved.new.self.items s.rows.items c.widen_table.new.table.items c.push_reserved-2.new.self.items s.basics.items c.widen_table-2.new.table.items c.add_variable.new.variables.items s.spent)
          c.args.column (subst IsDictionary c.self.view_is c.self.invariant.1) c.requires.absent (returns g c) (subst HasReducedPrices c.self.view_is (c.self.invariant.4 told)),
    )
