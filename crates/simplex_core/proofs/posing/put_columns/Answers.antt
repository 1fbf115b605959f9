use Rattle.std.proofs.Common.{◌≡◌, ◌<◌, ◌∙◌, ℕ, pos, arith, ap, sym, subst, length, slice_index}
use Rattle.std.specs.List.{Contains}
use Rattle.fraction_theory.specs.Fraction.{whole}
use Rattle.linear_dict.specs.Dictionaries.{Dictionary, with_note}
use Rattle.linear_dict.specs.Notes.{Noted, noted}
use Rattle.linear_dict.proofs.SplitLemmas.{Contains-at}
use Rattle.simplex_core.specs.Posings.{column_note, column_price, low_at, high_at}
use Rattle.simplex_core.specs.declared.bounds.Bounds.{Bounds}
use Rattle.simplex_core.proofs.PutLemmas.{putting_start, putting_step, read_at, term_is}
use Rattle.simplex_core.proofs.posing.put_columns.Goals as goal

pub loop-k-init : goal.loop-k-init
loop-k-init g c = putting_start c.args.dict.now c.requires.sound c.args.dict.now.columns (column_note g.N.Exact.value c.args.prices.now c.args.bounds.now) c.requires.sound.put_in.second_distinct c.requires.sound.put_in.second_named

pub set_note-requires-clause-named : goal.set_note-requires-clause-named
set_note-requires-clause-named g c =
    let d : Dictionary = c.args.dict.now in
    let k : ℕ = c.loop-k.k in
    let name : c.column_name-name.result ≡ slice_index d.columns k = c.column_name-name.ensures ∙ ap (λ (x : Dictionary). slice_index x.columns k) c.loop-k.invariant.is in
    let hk : k < length d.columns = Prim.omega (arith, c.loop-k-test.true, c.requires.prices) in
    subst (λ (x : Dictionary). Contains x.names c.column_name-name.result) (sym c.loop-k.invariant.is)
    (subst (Contains d.names) (sym name) (c.requires.sound.put_in.second_named (slice_index d.columns k) (Contains-at d.columns k hk)))

pub loop-k-preserved : goal.loop-k-preserved
loop-k-preserved g c =
    let value = g.N.Exact.value in
    let d : Dictionary = c.args.dict.now in
    let k : ℕ = c.loop-k.k in
    let name : c.column_name-name.result ≡ slice_index d.columns k = c.column_name-name.ensures ∙ ap (λ (x : Dictionary). slice_index x.columns k) c.loop-k.invariant.is in
    let hp : k < length c.args.prices.now = c.loop-k-test.true in
    let hk : k < length d.columns = Prim.omega (arith, c.loop-k-test.true, c.requires.prices) in
    let hb : k < length c.args.bounds.now = Prim.omega (arith, hk, c.requires.bounds) in
    let n : Noted = noted value c.term-note.result in
    putting_step d c.requires.sound d.columns (column_note value c.args.prices.now c.args.bounds.now) c.requires.sound.put_in.second_distinct c.requires.sound.put_in.second_named
    k c.loop-k.dict c.loop-k.invariant n c.set_note.new.self hk
    (c.set_note.ensures ∙ ap (λ (w : ℕ). with_note c.loop-k.dict w n) name)
    (c.term-note.ensures
    ∙ term_is (value c.index-prices-k.result) (column_price value c.args.prices.now k) (value c.index-bounds-k.result.low) (low_at value c.args.bounds.now k) (value c.index-bounds-k.result.high) (high_at value c.args.bounds.now k)
    (read_at value c.args.prices.now k c.index-prices-k.result (whole (pos 0)) hp c.index-prices-k.is)
    (read_at (λ (b : Bounds g.row.N.Denot). value b.low) c.args.bounds.now k c.index-bounds-k.result (whole (pos 0)) hb c.index-bounds-k.is)
    (read_at (λ (b : Bounds g.row.N.Denot). value b.high) c.args.bounds.now k c.index-bounds-k.result (whole (pos 0)) hb c.index-bounds-k.is))
