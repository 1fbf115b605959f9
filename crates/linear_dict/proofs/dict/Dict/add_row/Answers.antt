use Rattle.std.proofs.Common.{◌≡◌, ◌∙◌, ◌++◌, ◌∷◌, [], ℕ, List, arith, ap, sym, subst, length, refl, map}
use mathlib.Core.Path.{ap₂}
use Rattle.std.specs.List.{Contains}
use Rattle.fraction_theory.specs.Sums.{sum_by}
use Rattle.linear_dict.specs.Adding.{AreSums, AreInTable, row_term}
use Rattle.linear_dict.specs.declared.index.Variable.{Variable}
use Rattle.linear_dict.specs.declared.place.Place.TheVariants.{Row}
use Rattle.std.proofs.lemmas.Result.{err_from_is_err_and}
use Rattle.linear_dict.specs.Causes.{AddShare, IsPairWith, IsRefused, RowShare}
use Rattle.linear_dict.proofs.CauseLemmas.{on_passed_as, refused_as}
use Rattle.linear_dict.specs.Dictionaries.{Dictionary, seen}
use Rattle.linear_dict.proofs.AddRowLemmas.{row_asks, row_pair, add_row_lists, adds_row_to, places_within}
use Rattle.linear_dict.proofs.ReducedPriceLemmas.{reduced_with_row}
use Rattle.linear_dict.proofs.dict.Dict.add_row.Goals as goal

pub row_entries-requires : goal.row_entries-requires
row_entries-requires g c =
    let s = c.self.inside in
    let count : ℕ = length c.args.entries.now in
    let n : c.len.result ≡ length s.others.items = Prim.omega (arith, c.len.ensures, s.others.ok.0) in
    let entries : length c.args.entries.now ≡ length s.columns.items = c.requires.entries ∙ sym (ap (λ (d : Dictionary). length d.columns) c.self.view_is) in record {
      within =
          subst (λ (us : List (Variable g.row.N.Denot)). AreInTable (length c.deref-2.result.now) c.len.result count us) (sym c.deref.ensures.value)
          (subst (λ (t : List g.row.N.Denot). AreInTable (length t) c.len.result count s.variables.items) (sym c.deref-2.ensures.value)
          (subst (λ (m : ℕ). AreInTable (length s.table.items) m count s.variables.items) (sym n)
          (places_within g.N.Exact.value s.columns.items s.rows.items s.coefficients.items s.others.items s.basics.items s.table.items s.variables.items s.spent c.self.invariant.1 c.self.invariant.0 c.args.entries.now entries)));
    }

pub add_variable-requires-clause-absent : goal.add_variable-requires-clause-absent
add_variable-requires-clause-absent g c = λ m. c.requires.absent (subst (λ (d : Dictionary). Contains d.names c.args.row) c.self.view_is m)

pub invariant_of-self-2 : goal.invariant_of-self-2
invariant_of-self-2 g c =
    let value = g.N.Exact.value in
    let s = c.self.inside in
    let vs : List (Variable g.row.N.Denot) = s.variables.items in
    let table : List g.row.N.Denot = s.table.items in
    let n : c.len.result ≡ length s.others.items = Prim.omega (arith, c.len.ensures, s.others.ok.0) in
    let entries : length c.args.entries.now ≡ length s.columns.items = c.requires.entries ∙ sym (ap (λ (d : Dictionary). length d.columns) c.self.view_is) in
    let sums : AreSums value c.in_ok-fresh.fresh.items (length s.others.items) (λ k. sum_by (row_term value (length s.others.items) table c.args.entries.now k) vs) =
    subst (λ (m : ℕ). AreSums value c.in_ok-fresh.fresh.items m (λ k. sum_by (row_term value m table c.args.entries.now k) vs)) n
    (subst (λ (t : List g.row.N.Denot). AreSums value c.in_ok-fresh.fresh.items c.len.result (λ k. sum_by (row_term value c.len.result t c.args.entries.now k) vs)) c.deref-2.ensures.value
    (subst (λ (us : List (Variable g.row.N.Denot)). AreSums value c.in_ok-fresh.fresh.items c.len.result (λ k. sum_by (row_term value c.len.result c.deref-2.result.now c.args.entries.now k) us)) c.deref.ensures.value c.in_ok-fresh.ensures.sums)) in
    let same = c.make_room.ensures.same in
    let lb : length c.make_room.new.basics.items ≡ length s.basics.items = ap length same.1 in
    let lr : length c.make_room.new.rows.items ≡ length s.rows.items = ap length same.0 in
    let place : c.len-2.result ≡ length s.basics.items = Prim.omega (arith, c.len-2.ensures, c.make_room.new.basics.ok.0, lb) in
    let put : c.len-3.result ≡ length s.rows.items = Prim.omega (arith, c.len-3.ensures, c.make_room.new.rows.ok.0, lr) in
    let p = add_row_lists value s.columns.items s.rows.items s.coefficients.items s.others.items s.basics.items table vs s.spent c.self.invariant.1 c.self.invariant.0
    (ap (λ (d : Dictionary). d.spent) c.self.view_is ∙ c.requires.live) c.args.row
    (λ m. c.requires.absent (subst (λ (d : Dictionary). Contains d.names c.args.row) c.self.view_is m))
    c.args.entries.now c.in_ok-fresh.fresh.items entries sums c.add_variable.new.variables.items
    (record { name = c.args.row; place = Row c.len-2.result; put = Row c.len-3.result; note = c.blank_note.result }) c.in_ok-add_variable.ensures.added refl (ap Row place) (ap Row put) c.blank_note.ensures
    c.push_reserved.new.self.items c.push_reserved-2.new.self.items c.append.new.list.items c.append-2.new.list.items
    (c.push_reserved.ensures.items ∙ ap (λ (xs : List ℕ). xs ++ c.args.row ∷ []) same.0)
    (c.push_reserved-2.ensures.items ∙ ap (λ (xs : List ℕ). xs ++ c.args.row ∷ []) same.1)
    (c.append.ensures ∙ ap (λ (xs : List g.row.N.Denot). xs ++ c.args.entries.now) same.2)
    (c.append-2.ensures ∙ ap₂ ◌++◌ same.3 c.deref-3.ensures.value) in (
      p.0,
      p.1.sound,
      c.add_variable.ensures.named,
      c.self.invariant.3,
      λ told. reduced_with_row value (seen value s.columns.items s.rows.items s.coefficients.items s.others.items s.basics.items table vs s.spent)
          (seen value s.columns.items c.push_reserved.new.self.items c.append.new.list.items s.others.items c.push_reserved-2.new.self.items c.append-2.new.list.items c.add_variable.new.variables.items s.spent)
          c.args.row c.args.entries.now c.self.invariant.1 (λ m. c.requires.absent (subst (λ (d : Dictionary). Contains d.names c.args.row) c.self.view_is m)) p.1 (c.self.invariant.4 told),
    )

pub returns-clause-added : goal.returns-clause-added
returns-clause-added g c =
    let value = g.N.Exact.value in
    let s = c.self.inside in
    let vs : List (Variable g.row.N.Denot) = s.variables.items in
    let table : List g.row.N.Denot = s.table.items in
    let n : c.len.result ≡ length s.others.items = Prim.omega (arith, c.len.ensures, s.others.ok.0) in
    let entries : length c.args.entries.now ≡ length s.columns.items = c.requires.entries ∙ sym (ap (λ (d : Dictionary). length d.columns) c.self.view_is) in
    let sums : AreSums value c.in_ok-fresh.fresh.items (length s.others.items) (λ k. sum_by (row_term value (length s.others.items) table c.args.entries.now k) vs) =
    subst (λ (m : ℕ). AreSums value c.in_ok-fresh.fresh.items m (λ k. sum_by (row_term value m table c.args.entries.now k) vs)) n
    (subst (λ (t : List g.row.N.Denot). AreSums value c.in_ok-fresh.fresh.items c.len.result (λ k. sum_by (row_term value c.len.result t c.args.entries.now k) vs)) c.deref-2.ensures.value
    (subst (λ (us : List (Variable g.row.N.Denot)). AreSums value c.in_ok-fresh.fresh.items c.len.result (λ k. sum_by (row_term value c.len.result c.deref-2.result.now c.args.entries.now k) us)) c.deref.ensures.value c.in_ok-fresh.ensures.sums)) in
    let same = c.make_room.ensures.same in
    let lb : length c.make_room.new.basics.items ≡ length s.basics.items = ap length same.1 in
    let lr : length c.make_room.new.rows.items ≡ length s.rows.items = ap length same.0 in
    let place : c.len-2.result ≡ length s.basics.items = Prim.omega (arith, c.len-2.ensures, c.make_room.new.basics.ok.0, lb) in
    let put : c.len-3.result ≡ length s.rows.items = Prim.omega (arith, c.len-3.ensures, c.make_room.new.rows.ok.0, lr) in
    let p = add_row_lists value s.columns.items s.rows.items s.coefficients.items s.others.items s.basics.items table vs s.spent c.self.invariant.1 c.self.invariant.0
    (ap (λ (d : Dictionary). d.spent) c.self.view_is ∙ c.requires.live) c.args.row
    (λ m. c.requires.absent (subst (λ (d : Dictionary). Contains d.names c.args.row) c.self.view_is m))
    c.args.entries.now c.in_ok-fresh.fresh.items entries sums c.add_variable.new.variables.items
    (record { name = c.args.row; place = Row c.len-2.result; put = Row c.len-3.result; note = c.blank_note.result }) c.in_ok-add_variable.ensures.added refl (ap Row place) (ap Row put) c.blank_note.ensures
    c.push_reserved.new.self.items c.push_reserved-2.new.self.items c.append.new.list.items c.append-2.new.list.items
    (c.push_reserved.ensures.items ∙ ap (λ (xs : List ℕ). xs ++ c.args.row ∷ []) same.0)
    (c.push_reserved-2.ensures.items ∙ ap (λ (xs : List ℕ). xs ++ c.args.row ∷ []) same.1)
    (c.append.ensures ∙ ap (λ (xs : List g.row.N.Denot). xs ++ c.args.entries.now) same.2)
    (c.append-2.ensures ∙ ap₂ ◌++◌ same.3 c.deref-3.ensures.value) in
    adds_row_to c.self.view_is p.1

pub returns-in_err-fresh-clause-stops : goal.returns-in_err-fresh-clause-stops
returns-in_err-fresh-clause-stops g c =
    let value = g.N.Exact.value in
    let s = c.self.inside in
    let vs : List (Variable g.row.N.Denot) = s.variables.items in
    let entries : List g.row.N.Denot = c.args.entries.now in
    let n : c.len.result ≡ length s.others.items = Prim.omega (arith, c.len.ensures, s.others.ok.0) in
    let p = err_from_is_err_and c.from_residual.result c.from_residual.ensures.1 in
    rw (p.1, p.2)
    (on_passed_as c.in_err-fresh.field-0.0 (IsRefused value g.N.Exact.bound (RowShare value c.len.result c.deref-2.result.now entries c.deref.result.now)) (IsRefused value g.N.Exact.bound (AddShare c.args.self.now (map value entries)))
    (λ e h. refused_as value g.N.Exact.bound (RowShare value c.len.result c.deref-2.result.now entries c.deref.result.now) (AddShare c.args.self.now (map value entries)) e
    (λ x a b o.
    subst (λ (d : Dictionary). AddShare d (map value entries) x a b) c.self.view_is
    (row_asks value s.columns.items s.rows.items s.coefficients.items s.others.items s.basics.items s.table.items vs s.spent c.self.invariant.1 c.self.invariant.0 entries x a b
    (subst (λ (m : ℕ). RowShare value m s.table.items entries vs x a b) n
    (subst (λ (t : List g.row.N.Denot). RowShare value c.len.result t entries vs x a b) c.deref-2.ensures.value
    (subst (λ (us : List (Variable g.row.N.Denot)). RowShare value c.len.result c.deref-2.result.now entries us x a b) c.deref.ensures.value o))))) h)
    c.in_err-fresh.ensures.stops)

pub returns-in_err-fresh-clause-pair : goal.returns-in_err-fresh-clause-pair
returns-in_err-fresh-clause-pair g c =
    let value = g.N.Exact.value in
    let s = c.self.inside in
    let vs : List (Variable g.row.N.Denot) = s.variables.items in
    let entries : List g.row.N.Denot = c.args.entries.now in
    let n : c.len.result ≡ length s.others.items = Prim.omega (arith, c.len.ensures, s.others.ok.0) in
    let count : length entries ≡ length s.columns.items = c.requires.entries ∙ sym (ap (λ (d : Dictionary). length d.columns) c.self.view_is) in
    let p = err_from_is_err_and c.from_residual.result c.from_residual.ensures.1 in
    let seen_now : Dictionary = seen value s.columns.items s.rows.items s.coefficients.items s.others.items s.basics.items s.table.items vs s.spent in
    rw (p.1, p.2)
    (on_passed_as c.in_err-fresh.field-0.0 (IsRefused value g.N.Exact.bound (RowShare value c.len.result c.deref-2.result.now entries c.deref.result.now)) (IsPairWith value g.N.Exact.bound c.args.self.now c.args.row entries)
    (λ e h.
    subst (λ (d : Dictionary). IsPairWith value g.N.Exact.bound d c.args.row entries e) c.self.view_is
    (row_pair value seen_now c.self.invariant.1 (ap (λ (d : Dictionary). d.spent) c.self.view_is ∙ c.requires.live) c.args.row
    (λ m. c.requires.absent (subst (λ (d : Dictionary). Contains d.names c.args.row) c.self.view_is m)) entries count g.N.Exact.bound e.op (value e.left) (value e.right) h.x h.a h.b
    (row_asks value s.columns.items s.rows.items s.coefficients.items s.others.items s.basics.items s.table.items vs s.spent c.self.invariant.1 c.self.invariant.0 entries h.x h.a h.b
    (subst (λ (m : ℕ). RowShare value m s.table.items entries vs h.x h.a h.b) n
    (subst (λ (t : List g.row.N.Denot). RowShare value c.len.result t entries vs h.x h.a h.b) c.deref-2.ensures.value
    (subst (λ (us : List (Variable g.row.N.Denot)). RowShare value c.len.result c.deref-2.result.now entries us h.x h.a h.b) c.deref.ensures.value h.asked)))) h.refused))
    c.in_err-fresh.ensures.stops)
