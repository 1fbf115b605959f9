use Rattle.std.proofs.Common.{◌≡◌, ◌+◌, ◌<◌, ◌∙◌, ℕ, pos, arith, ap, sym, subst, length, slice_index}
use Rattle.std.specs.List.{Contains}
use Rattle.fraction_theory.specs.Fraction.{whole}
use Rattle.fraction_theory.proofs.FieldLaws.{over-one}
use Rattle.linear_dict.specs.Dictionaries.{Dictionary, with_note}
use Rattle.linear_dict.specs.Notes.{Noted, noted}
use Rattle.linear_dict.proofs.SplitLemmas.{Contains-at}
use Rattle.simplex_core.specs.Posings.{row_note, low_at, high_at}
use Rattle.simplex_core.specs.declared.bounds.Bounds.{Bounds}
use Rattle.simplex_core.proofs.PutLemmas.{putting_start, putting_step, read_at, term_is}
use Rattle.simplex_core.proofs.posing.put_rows.Goals as goal

pub loop-k-init : goal.loop-k-init
loop-k-init g c = putting_start c.args.dict.now c.requires.sound c.args.dict.now.rows (row_note g.N.Exact.value c.args.columns c.args.bounds.now) c.requires.sound.put_in.first_distinct c.requires.sound.put_in.first_named

pub set_note-requires-clause-named : goal.set_note-requires-clause-named
set_note-requires-clause-named g c =
    let d : Dictionary = c.args.dict.now in
    let k : ℕ = c.loop-k.k in
    let name : c.row_name-name.result ≡ slice_index d.rows k = c.row_name-name.ensures ∙ ap (λ (x : Dictionary). slice_index x.rows k) c.loop-k.invariant.is in
    let hk : k < length d.rows = Prim.omega (arith, c.loop-k-test.true, c.row_count-k-end.ensures, c.requires.sound.row_count) in
    subst (λ (x : Dictionary). Contains x.names c.row_name-name.result) (sym c.loop-k.invariant.is)
    (subst (Contains d.names) (sym name) (c.requires.sound.put_in.first_named (slice_index d.rows k) (Contains-at d.rows k hk)))

pub loop-k-preserved : goal.loop-k-preserved
loop-k-preserved g c =
    let value = g.N.Exact.value in
    let d : Dictionary = c.args.dict.now in
    let k : ℕ = c.loop-k.k in
    let at : ℕ = c.args.columns + k in
    let name : c.row_name-name.result ≡ slice_index d.rows k = c.row_name-name.ensures ∙ ap (λ (x : Dictionary). slice_index x.rows k) c.loop-k.invariant.is in
    let hk : k < length d.rows = Prim.omega (arith, c.loop-k-test.true, c.row_count-k-end.ensures, c.requires.sound.row_count) in
    let hb : at < length c.args.bounds.now = Prim.omega (arith, hk, c.requires) in
    let n : Noted = noted value c.term-note.result in
    putting_step d c.requires.sound d.rows (row_note value c.args.columns c.args.bounds.now) c.requires.sound.put_in.first_distinct c.requires.sound.put_in.first_named
    k c.loop-k.dict c.loop-k.invariant n c.set_note.new.self hk
    (c.set_note.ensures ∙ ap (λ (w : ℕ). with_note c.loop-k.dict w n) name)
    (c.term-note.ensures
    ∙ term_is (value c.of_parts.result) (whole (pos 0)) (value c.index-bounds-columns.result.low) (low_at value c.args.bounds.now at) (value c.index-bounds-columns.result.high) (high_at value c.args.bounds.now at)
    (c.of_parts.ensures ∙ over-one (pos 0))
    (read_at (λ (b : Bounds g.row.N.Denot). value b.low) c.args.bounds.now at c.index-bounds-columns.result (whole (pos 0)) hb c.index-bounds-columns.is)
    (read_at (λ (b : Bounds g.row.N.Denot). value b.high) c.args.bounds.now at c.index-bounds-columns.result (whole (pos 0)) hb c.index-bounds-columns.is))
