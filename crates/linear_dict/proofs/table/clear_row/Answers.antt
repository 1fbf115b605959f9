use Rattle.std.proofs.Common.{rules, ℕ, ◌+◌, ◌*◌, ◌<◌, ◌∙◌, ap, length, arith, sym, subst, List, ◌≡◌, get_or, map, refl, slice_set}
use mathlib.Core.Path.{ap₂}
use Rattle.std.proofs.lemmas.List.{length-map}
use Rattle.fraction_theory.specs.Fraction.{Fraction, ◌+ℚ◌, ◌*ℚ◌}
use Rattle.std.proofs.lemmas.Result.{err_from_is_err_and}
use Rattle.linear_dict.specs.Causes.{ClearShare, add, scale}
use Rattle.linear_dict.specs.Changes.{place_of}
use Rattle.linear_dict.specs.Tables.{cell, cleared_cell}
use Rattle.linear_dict.proofs.CauseLemmas.{refused_product, refused_share}
use Rattle.linear_dict.proofs.ChangeLemmas.{IsClearedAt, cleared_more, cleared_none, cleared_stage, kept_places, place_at, place_other, place_within, read_next, read_solved, sums_more}
use Rattle.linear_dict.proofs.TableLemmas.{cell_read_within}
use Rattle.linear_dict.proofs.PivotLemmas.{clear_nothing, cleared_number, is_stage_end}
use Rattle.linear_dict.proofs.table.clear_row.Goals as goal

pub returns-then-is_zero-clause-cleared : goal.returns-then-is_zero-clause-cleared
returns-then-is_zero-clause-cleared g c = λ rows e.
    let value : g.row.N.Denot → Fraction = g.N.Exact.value in
    let old : List g.row.N.Denot = c.args.table.now.items in
    clear_nothing rows c.args.columns (map value old) c.args.row c.args.solved c.args.column (length-map old value ∙ e)
    (sym (cell_read_within value old c.args.columns c.args.row c.args.column c.index-factor.result.now (Prim.omega (arith, c.requires.room, c.requires.within)) c.index-factor.ensures)
    ∙ c.is_zero.ensures.0 c.if-is_zero.true)

pub loop-n-init : goal.loop-n-init
loop-n-init g c = record {
  cleared = cleared_none g.N.Exact.value c.args.columns c.args.table.now.items c.args.row c.args.solved c.args.column (map place_of c.args.changes.now.items);
  places = refl;
  capacity = refl;
  sums = λ m d h. absurd (Prim.omega (arith, h));
}

pub overflow_add-here : goal.overflow_add-here
overflow_add-here g c =
    let value : g.row.N.Denot → Fraction = g.N.Exact.value in
    let old : List g.row.N.Denot = c.args.table.now.items in
    let columns : ℕ = c.args.columns in
    let row : ℕ = c.args.row in
    let solved : ℕ = c.args.solved in
    let column : ℕ = c.args.column in
    let n : ℕ = c.loop-n.n in
    let places : List ℕ = map place_of c.args.changes.now.items in
    let count : length places ≡ c.len-n-end.result = length-map c.args.changes.now.items place_of ∙ Prim.omega (arith, c.len-n-end.ensures, c.args.changes.now.ok.0) in
    let below : n < length places = Prim.omega (arith, count, c.loop-n-test.true) in
    let listed : n < length c.loop-n.changes.items = Prim.omega (arith, below, ap length c.loop-n.invariant.places, length-map c.loop-n.changes.items place_of) in
    let place : c.index.result.now.place ≡ get_or places n 0 = place_at c.loop-n.changes.items places n c.index.result.now c.loop-n.invariant.places listed c.index.ensures in
    let low : c.index.result.now.place < columns = Prim.omega (arith, place, place_within value columns old row solved column places c.requires.listed c.requires.room n below) in
    Prim.search rules

pub index-entry-requires : goal.index-entry-requires
index-entry-requires g c =
    let value : g.row.N.Denot → Fraction = g.N.Exact.value in
    let old : List g.row.N.Denot = c.args.table.now.items in
    let columns : ℕ = c.args.columns in
    let row : ℕ = c.args.row in
    let solved : ℕ = c.args.solved in
    let column : ℕ = c.args.column in
    let n : ℕ = c.loop-n.n in
    let places : List ℕ = map place_of c.args.changes.now.items in
    let count : length places ≡ c.len-n-end.result = length-map c.args.changes.now.items place_of ∙ Prim.omega (arith, c.len-n-end.ensures, c.args.changes.now.ok.0) in
    let below : n < length places = Prim.omega (arith, count, c.loop-n-test.true) in
    let listed : n < length c.loop-n.changes.items = Prim.omega (arith, below, ap length c.loop-n.invariant.places, length-map c.loop-n.changes.items place_of) in
    let place : c.index.result.now.place ≡ get_or places n 0 = place_at c.loop-n.changes.items places n c.index.result.now c.loop-n.invariant.places listed c.index.ensures in
    let low : c.index.result.now.place < columns = Prim.omega (arith, place, place_within value columns old row solved column places c.requires.listed c.requires.room n below) in
    Prim.search rules

pub overflow_add-solved_start : goal.overflow_add-solved_start
overflow_add-solved_start g c =
    let value : g.row.N.Denot → Fraction = g.N.Exact.value in
    let old : List g.row.N.Denot = c.args.table.now.items in
    let columns : ℕ = c.args.columns in
    let row : ℕ = c.args.row in
    let solved : ℕ = c.args.solved in
    let column : ℕ = c.args.column in
    let n : ℕ = c.loop-n.n in
    let places : List ℕ = map place_of c.args.changes.now.items in
    let count : length places ≡ c.len-n-end.result = length-map c.args.changes.now.items place_of ∙ Prim.omega (arith, c.len-n-end.ensures, c.args.changes.now.ok.0) in
    let below : n < length places = Prim.omega (arith, count, c.loop-n-test.true) in
    let listed : n < length c.loop-n.changes.items = Prim.omega (arith, below, ap length c.loop-n.invariant.places, length-map c.loop-n.changes.items place_of) in
    let place : c.index.result.now.place ≡ get_or places n 0 = place_at c.loop-n.changes.items places n c.index.result.now c.loop-n.invariant.places listed c.index.ensures in
    let low : c.index.result.now.place < columns = Prim.omega (arith, place, place_within value columns old row solved column places c.requires.listed c.requires.room n below) in
    Prim.search rules

pub index-other-requires : goal.index-other-requires
index-other-requires g c =
    let value : g.row.N.Denot → Fraction = g.N.Exact.value in
    let old : List g.row.N.Denot = c.args.table.now.items in
    let columns : ℕ = c.args.columns in
    let row : ℕ = c.args.row in
    let solved : ℕ = c.args.solved in
    let column : ℕ = c.args.column in
    let n : ℕ = c.loop-n.n in
    let places : List ℕ = map place_of c.args.changes.now.items in
    let count : length places ≡ c.len-n-end.result = length-map c.args.changes.now.items place_of ∙ Prim.omega (arith, c.len-n-end.ensures, c.args.changes.now.ok.0) in
    let below : n < length places = Prim.omega (arith, count, c.loop-n-test.true) in
    let listed : n < length c.loop-n.changes.items = Prim.omega (arith, below, ap length c.loop-n.invariant.places, length-map c.loop-n.changes.items place_of) in
    let place : c.index.result.now.place ≡ get_or places n 0 = place_at c.loop-n.changes.items places n c.index.result.now c.loop-n.invariant.places listed c.index.ensures in
    let low : c.index.result.now.place < columns = Prim.omega (arith, place, place_within value columns old row solved column places c.requires.listed c.requires.room n below) in
    Prim.search rules

pub index_mut-requires-in-loop-n : goal.index_mut-requires-in-loop-n
index_mut-requires-in-loop-n g c =
    let value : g.row.N.Denot → Fraction = g.N.Exact.value in
    let old : List g.row.N.Denot = c.args.table.now.items in
    let columns : ℕ = c.args.columns in
    let row : ℕ = c.args.row in
    let solved : ℕ = c.args.solved in
    let column : ℕ = c.args.column in
    let n : ℕ = c.loop-n.n in
    let places : List ℕ = map place_of c.args.changes.now.items in
    let count : length places ≡ c.len-n-end.result = length-map c.args.changes.now.items place_of ∙ Prim.omega (arith, c.len-n-end.ensures, c.args.changes.now.ok.0) in
    let below : n < length places = Prim.omega (arith, count, c.loop-n-test.true) in
    let listed : n < length c.loop-n.changes.items = Prim.omega (arith, below, ap length c.loop-n.invariant.places, length-map c.loop-n.changes.items place_of) in
    let place : c.index.result.now.place ≡ get_or places n 0 = place_at c.loop-n.changes.items places n c.index.result.now c.loop-n.invariant.places listed c.index.ensures in
    let low : c.index.result.now.place < columns = Prim.omega (arith, place, place_within value columns old row solved column places c.requires.listed c.requires.room n below) in
    Prim.search rules

pub loop-n-preserved : goal.loop-n-preserved
loop-n-preserved g c =
    let value : g.row.N.Denot → Fraction = g.N.Exact.value in
    let old : List g.row.N.Denot = c.args.table.now.items in
    let columns : ℕ = c.args.columns in
    let row : ℕ = c.args.row in
    let solved : ℕ = c.args.solved in
    let column : ℕ = c.args.column in
    let n : ℕ = c.loop-n.n in
    let places : List ℕ = map place_of c.args.changes.now.items in
    let count : length places ≡ c.len-n-end.result = length-map c.args.changes.now.items place_of ∙ Prim.omega (arith, c.len-n-end.ensures, c.args.changes.now.ok.0) in
    let below : n < length places = Prim.omega (arith, count, c.loop-n-test.true) in
    let listed : n < length c.loop-n.changes.items = Prim.omega (arith, below, ap length c.loop-n.invariant.places, length-map c.loop-n.changes.items place_of) in
    let place : c.index.result.now.place ≡ get_or places n 0 = place_at c.loop-n.changes.items places n c.index.result.now c.loop-n.invariant.places listed c.index.ensures in
    let low : c.index.result.now.place < columns = Prim.omega (arith, place, place_within value columns old row solved column places c.requires.listed c.requires.room n below) in
    let cur : List g.row.N.Denot = c.loop-n.table.items in
    let factor : value c.index-factor.result.now ≡ cell columns (map value old) row column =
    cell_read_within value old columns row column c.index-factor.result.now (Prim.omega (arith, c.requires.room, c.requires.within)) c.index-factor.ensures in
    let entry : value c.index-entry.result.now ≡ cell columns (map value old) row (get_or places n 0) =
    read_next value columns old row solved column places c.requires.listed c.requires.room cur n c.loop-n.invariant.cleared c.index-entry.result.now below
    (c.index-entry.ensures ∙ ap (λ (k : ℕ). get_or cur (row * columns + k) c.index-entry.result.now) place) in
    let other : value c.index-other.result.now ≡ cell columns (map value old) solved (get_or places n 0) =
    read_solved value columns old row solved column places c.requires.listed c.requires.room cur n c.loop-n.invariant.cleared (get_or places n 0) c.index-other.result.now (Prim.omega (arith, below)) c.requires.other
    c.requires.solved_room (place_within value columns old row solved column places c.requires.listed c.requires.room n below) (c.index-other.ensures ∙ ap (λ (k : ℕ). get_or cur (solved * columns + k) c.index-other.result.now) place) in
    record {
      cleared = subst (λ (k : ℕ). IsClearedAt value columns old row solved column places (slice_set cur (row * columns + k) c.in_ok-outcome.outcome) (n + 1)) (sym place)
          (cleared_more value columns old row solved column places c.requires.listed c.requires.room cur n c.loop-n.invariant.cleared c.in_ok-outcome.outcome below
          (c.in_ok-outcome.ensures.exact ∙ ap₂ ◌+ℚ◌ entry (ap₂ ◌*ℚ◌ factor other)));
      places = kept_places c.loop-n.changes.items n c.index_mut.result.now _ c.index_mut.ensures.value refl ∙ c.loop-n.invariant.places;
      capacity = c.loop-n.invariant.capacity;
      sums = sums_more value c.index-factor.result.now c.loop-n.changes.items n _ listed c.in_ok-outcome.ensures c.loop-n.invariant.sums;
    }

pub returns-in_err-outcome-clause-stops : goal.returns-in_err-outcome-clause-stops
returns-in_err-outcome-clause-stops g c =
    let value : g.row.N.Denot → Fraction = g.N.Exact.value in
    let old : List g.row.N.Denot = c.args.table.now.items in
    let columns : ℕ = c.args.columns in
    let row : ℕ = c.args.row in
    let solved : ℕ = c.args.solved in
    let column : ℕ = c.args.column in
    let n : ℕ = c.loop-n.n in
    let places : List ℕ = map place_of c.args.changes.now.items in
    let count : length places ≡ c.len-n-end.result = length-map c.args.changes.now.items place_of ∙ Prim.omega (arith, c.len-n-end.ensures, c.args.changes.now.ok.0) in
    let below : n < length places = Prim.omega (arith, count, c.loop-n-test.true) in
    let listed : n < length c.loop-n.changes.items = Prim.omega (arith, below, ap length c.loop-n.invariant.places, length-map c.loop-n.changes.items place_of) in
    let place : c.index.result.now.place ≡ get_or places n 0 = place_at c.loop-n.changes.items places n c.index.result.now c.loop-n.invariant.places listed c.index.ensures in
    let low : c.index.result.now.place < columns = Prim.omega (arith, place, place_within value columns old row solved column places c.requires.listed c.requires.room n below) in
    let cur : List g.row.N.Denot = c.loop-n.table.items in
    let factor : value c.index-factor.result.now ≡ cell columns (map value old) row column =
    cell_read_within value old columns row column c.index-factor.result.now (Prim.omega (arith, c.requires.room, c.requires.within)) c.index-factor.ensures in
    let entry : value c.index-entry.result.now ≡ cell columns (map value old) row (get_or places n 0) =
    read_next value columns old row solved column places c.requires.listed c.requires.room cur n c.loop-n.invariant.cleared c.index-entry.result.now below
    (c.index-entry.ensures ∙ ap (λ (k : ℕ). get_or cur (row * columns + k) c.index-entry.result.now) place) in
    let other : value c.index-other.result.now ≡ cell columns (map value old) solved (get_or places n 0) =
    read_solved value columns old row solved column places c.requires.listed c.requires.room cur n c.loop-n.invariant.cleared (get_or places n 0) c.index-other.result.now (Prim.omega (arith, below)) c.requires.other
    c.requires.solved_room (place_within value columns old row solved column places c.requires.listed c.requires.room n below) (c.index-other.ensures ∙ ap (λ (k : ℕ). get_or cur (solved * columns + k) c.index-other.result.now) place) in
    let f : ℕ → ℕ → Fraction = cell columns (map value old) in
    let p = err_from_is_err_and c.from_residual.result c.from_residual.ensures.1 in
    rw (p.1, p.2) (λ rows e.
    refused_share value g.N.Exact.bound (ClearShare columns f row solved column) c.index-entry.result.now c.index-factor.result.now c.index-other.result.now c.in_err-outcome.field-0.0
    (f row (get_or places n 0)) (f row column) (f solved (get_or places n 0)) c.in_err-outcome.ensures entry factor other
    (add (get_or places n 0) (place_within value columns old row solved column places c.requires.listed c.requires.room n below) (place_other value columns old row solved column places c.requires.listed c.requires.room n below)))

pub returns-clause-cleared : goal.returns-clause-cleared
unfolding cleared_cell
returns-clause-cleared g c = λ rows e.
    let value : g.row.N.Denot → Fraction = g.N.Exact.value in
    let old : List g.row.N.Denot = c.args.table.now.items in
    let columns : ℕ = c.args.columns in
    let row : ℕ = c.args.row in
    let solved : ℕ = c.args.solved in
    let column : ℕ = c.args.column in
    let n : ℕ = c.loop-n.n in
    let places : List ℕ = map place_of c.args.changes.now.items in
    let count : length places ≡ c.len-n-end.result = length-map c.args.changes.now.items place_of ∙ Prim.omega (arith, c.len-n-end.ensures, c.args.changes.now.ok.0) in
    let all : n ≡ length places = Prim.omega (arith, count, c.loop-n-test.false, c.loop-n.auto.n-end) in
    let factor : value c.index-factor.result.now ≡ cell columns (map value old) row column =
    cell_read_within value old columns row column c.index-factor.result.now (Prim.omega (arith, c.requires.room, c.requires.within)) c.index-factor.ensures in
    let other : value c.index-2.result.now ≡ cell columns (map value old) solved column =
    read_solved value columns old row solved column places c.requires.listed c.requires.room c.loop-n.table.items n c.loop-n.invariant.cleared column c.index-2.result.now (Prim.omega (arith, all)) c.requires.other
    c.requires.solved_room c.requires.within c.index-2.ensures in
    is_stage_end value columns old c.loop-n.table.items (cleared_number value columns old row solved column) row column columns c.in_ok-last.last _
    c.requires.within c.requires.room (Prim.omega arith) (cleared_stage value columns old row solved column places c.requires.listed c.requires.room c.loop-n.table.items n c.loop-n.invariant.cleared all) rows e
    (c.in_ok-last.ensures.exact ∙ ap₂ ◌*ℚ◌ factor other)

pub returns-in_err-last-clause-stops : goal.returns-in_err-last-clause-stops
returns-in_err-last-clause-stops g c =
    let value : g.row.N.Denot → Fraction = g.N.Exact.value in
    let old : List g.row.N.Denot = c.args.table.now.items in
    let columns : ℕ = c.args.columns in
    let row : ℕ = c.args.row in
    let solved : ℕ = c.args.solved in
    let column : ℕ = c.args.column in
    let n : ℕ = c.loop-n.n in
    let places : List ℕ = map place_of c.args.changes.now.items in
    let count : length places ≡ c.len-n-end.result = length-map c.args.changes.now.items place_of ∙ Prim.omega (arith, c.len-n-end.ensures, c.args.changes.now.ok.0) in
    let all : n ≡ length places = Prim.omega (arith, count, c.loop-n-test.false, c.loop-n.auto.n-end) in
    let factor : value c.index-factor.result.now ≡ cell columns (map value old) row column =
    cell_read_within value old columns row column c.index-factor.result.now (Prim.omega (arith, c.requires.room, c.requires.within)) c.index-factor.ensures in
    let other : value c.index-2.result.now ≡ cell columns (map value old) solved column =
    read_solved value columns old row solved column places c.requires.listed c.requires.room c.loop-n.table.items n c.loop-n.invariant.cleared column c.index-2.result.now (Prim.omega (arith, all)) c.requires.other
    c.requires.solved_room c.requires.within c.index-2.ensures in
    let f : ℕ → ℕ → Fraction = cell columns (map value old) in
    let p = err_from_is_err_and c.from_residual-in_err-last.result c.from_residual-in_err-last.ensures.1 in
    rw (p.1, p.2) (λ rows e.
    refused_product value g.N.Exact.bound (ClearShare columns f row solved column) c.index-factor.result.now c.index-2.result.now c.in_err-last.field-0.0 (f row column) (f solved column) c.in_err-last.ensures factor other scale)
