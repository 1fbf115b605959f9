use Rattle.std.proofs.Common.{◌∙◌, ◌+◌, ℕ, List, Vec, Global, ap, arith, inl, inr, map, subst, sym}
use Rattle.std.proofs.lemmas.List.{map-append}
use Rattle.std.specs.Vec.{vec_capacity, vec_len}
use Rattle.fraction_theory.specs.Fraction.{Fraction}
use Rattle.linear_dict.specs.Changes.{AreChanges, place_of}
use Rattle.linear_dict.specs.Tables.{cell}
use Rattle.linear_dict.specs.declared.changes.Change.{Change}
use Rattle.linear_dict.proofs.ChangeLemmas.{changes_more, changes_skip}
use Rattle.linear_dict.proofs.TableLemmas.{cell_read_within}
use Rattle.linear_dict.proofs.changes.list_changes.Goals as goal
use Rattle.linear_dict.proofs.changes.list_changes.Goals.{then-place-column+then-not-is_zero, else-place-column, else-place-column-via-then-place-column+else-not-is_zero, else-place-column-via-else-place-column}

pub loop-place-preserved : goal.loop-place-preserved
loop-place-preserved g c =
    let row : ℕ → Fraction = cell c.args.columns (map g.N.Exact.value c.args.table.now) c.args.solved in
    let place : ℕ = c.loop-place.place in
    let places : List ℕ = map place_of c.loop-place.changes.items in
    elim c.if-place-column.branch [
      | then-place-column+then-not-is_zero w ↦ record {
        capacity = ap vec_capacity w.changes-is ∙ w.push_reserved.ensures.capacity ∙ c.loop-place.invariant.capacity;
        few = Prim.omega (arith, ap vec_len w.changes-is, w.push_reserved.ensures.len, c.loop-place.invariant.few);
        listed = subst (AreChanges (place + 1) c.args.column row)
            (sym (ap (λ (t : Vec (Change g.row.N.Denot) Global). map place_of t.items) w.changes-is ∙ ap (map place_of) w.push_reserved.ensures.items ∙ map-append place_of c.loop-place.changes.items _))
            (changes_more c.args.column row place places w.if-place-column.true c.loop-place.invariant.listed);
      }
      | else-place-column w ↦ record {
        capacity = ap vec_capacity w.changes-is ∙ c.loop-place.invariant.capacity;
        few = Prim.omega (arith, ap vec_len w.changes-is, c.loop-place.invariant.few);
        listed = subst (λ (t : Vec (Change g.row.N.Denot) Global). AreChanges (place + 1) c.args.column row (map place_of t.items)) (sym w.changes-is)
            (elim w.else-place-column.branch [
              | else-place-column-via-then-place-column+else-not-is_zero v ↦
                  changes_skip c.args.column row place places
                  (inr (sym (cell_read_within g.N.Exact.value c.args.table.now c.args.columns c.args.solved place c.index-table-start.result (Prim.omega (arith, c.requires.row, c.loop-place-test.true)) c.index-table-start.is)
                  ∙ v.is_zero.ensures.0 v.if-not-is_zero.false))
                  c.loop-place.invariant.listed
              | else-place-column-via-else-place-column v ↦ changes_skip c.args.column row place places (inl v.if-place-column.false) c.loop-place.invariant.listed
            ]);
      }
    ]
