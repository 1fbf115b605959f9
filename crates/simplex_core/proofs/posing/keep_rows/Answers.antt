use Rattle.std.proofs.Common.{◌≡◌, ◌+◌, ◌<◌, ◌∙◌, ℕ, pos, arith, ap, sym, subst, length, slice_index}
use mathlib.Core.Path.{ap₂}
use Rattle.std.specs.List.{Contains}
use Rattle.fraction_theory.specs.Fraction.{Fraction, whole}
use Rattle.fraction_theory.proofs.FieldLaws.{over-one}
use Rattle.linear_dict.specs.Dictionaries.{Dictionary, note_of, with_note}
use Rattle.linear_dict.specs.Notes.{Noted, noted}
use Rattle.linear_dict.proofs.SplitLemmas.{Contains-at}
use Rattle.simplex_core.specs.Posings.{kept_row, low_at, high_at}
use Rattle.simplex_core.specs.declared.bounds.Bounds.{Bounds}
use Rattle.simplex_core.proofs.PutLemmas.{putting_note, putting_start, putting_step, read_at, term_is}
use Rattle.simplex_core.proofs.posing.keep_rows.Goals as goal

pub loop-k-init : goal.loop-k-init
loop-k-init g c = putting_start c.args.dict.now c.requires.sound c.args.dict.now.rows (kept_row g.N.Exact.value c.args.dict.now c.args.bounds.now c.args.columns) c.requires.sound.put_in.first_distinct c.requires.sound.put_in.first_named

pub note-reduced-requires-clause-named : goal.note-reduced-requires-clause-named
note-reduced-requires-clause-named g c =
    let d : Dictionary = c.args.dict.now in
    let k : ℕ = c.loop-k.k in
    let name : c.row_name-name.result ≡ slice_index d.rows k = c.row_name-name.ensures ∙ ap (λ (x : Dictionary). slice_index x.rows k) c.loop-k.invariant.is in
    let hk : k < length d.rows = Prim.omega (arith, c.loop-k-test.true, c.row_count-k-end.ensures, c.requires.sound.row_count) in
    subst (λ (x : Dictionary). Contains x.names c.row_name-name.result) (sym c.loop-k.invariant.is)
    (subst (Contains d.names) (sym name) (c.requires.sound.put_in.first_named (slice_index d.rows k) (Contains-at d.rows k hk)))

pub set_note-requires-clause-named : goal.set_note-requires-clause-named
set_note-requires-clause-named g c =
    let d : Dictionary = c.args.dict.now in
    let k : ℕ = c.loop-k.k in
    let name : c.row_name-name.result ≡ slice_index d.rows k = c.row_name-name.ensures ∙ ap (λ (x : Dictionary). slice_index x.rows k) c.loop-k.invariant.is in
    let hk : k < length d.rows = Prim.omega (arith, c.loop-k-test.true, c.row_count-k-end.ensures, c.requires.sound.row_count) in
    subst (λ (x : Dictionary). Contains x.names c.row_name-name.result) (sym c.loop-k.invariant.is)
    (subst (Contains d.names) (sym name) (c.requires.sound.put_in.first_named (slice_index d.rows k) (Contains-at d.rows k hk)))

pub loop-k-preserved : goal.loop-k-preserved
loop-k-preserved g c =
    let value = g.N.Exact.value in
    let d : Dictionary = c.args.dict.now in
    let e : Dictionary = c.loop-k.dict in
    let k : ℕ = c.loop-k.k in
    let at : ℕ = c.args.columns + k in
    let f : ℕ → Noted = kept_row value d c.args.bounds.now c.args.columns in
    let name : c.row_name-name.result ≡ slice_index d.rows k = c.row_name-name.ensures ∙ ap (λ (x : Dictionary). slice_index x.rows k) c.loop-k.invariant.is in
    let hk : k < length d.rows = Prim.omega (arith, c.loop-k-test.true, c.row_count-k-end.ensures, c.requires.sound.row_count) in
    let hb : at < length c.args.bounds.now = Prim.omega (arith, hk, c.requires) in
    let was : noted value c.note-reduced.result ≡ note_of d (slice_index d.rows k) =
    c.note-reduced.ensures ∙ ap (note_of e) name ∙ putting_note d c.requires.sound d.rows f c.requires.sound.put_in.first_distinct c.requires.sound.put_in.first_named k e c.loop-k.invariant hk in
    let x : Fraction = value c.note-reduced.result.reduced in
    let blank : Noted = noted value c.term-blank.result in
    putting_step d c.requires.sound d.rows f c.requires.sound.put_in.first_distinct c.requires.sound.put_in.first_named
    k e c.loop-k.invariant (record blank { reduced = x }) c.set_note.new.self hk
    (c.set_note.ensures ∙ ap (λ (v : ℕ). with_note e v (let y : Noted = record blank { reduced = x } in y)) name)
    (ap₂ (λ (m : Noted) (y : Fraction). let z : Noted = record m { reduced = y } in z)
    (c.term-blank.ensures
    ∙ term_is (value c.of_parts.result) (whole (pos 0)) (value c.index-bounds-columns.result.low) (low_at value c.args.bounds.now at) (value c.index-bounds-columns.result.high) (high_at value c.args.bounds.now at)
    (c.of_parts.ensures ∙ over-one (pos 0))
    (read_at (λ (b : Bounds g.row.N.Denot). value b.low) c.args.bounds.now at c.index-bounds-columns.result (whole (pos 0)) hb c.index-bounds-columns.is)
    (read_at (λ (b : Bounds g.row.N.Denot). value b.high) c.args.bounds.now at c.index-bounds-columns.result (whole (pos 0)) hb c.index-bounds-columns.is))
    (ap Noted.reduced was))
