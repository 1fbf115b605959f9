use Rattle.std.proofs.Common.{◌≡◌, ◌≢◌, ◌⊎◌, ◌<◌, ◌∙◌, ℕ, Ordering, pos, arith, ap, inl, inr, sym, subst, length, slice_index}
use Rattle.std.specs.List.{Contains}
use Rattle.std.specs.Ordering.{MatchOrdering}
use Rattle.fraction_theory.specs.Fraction.{Fraction, whole}
use Rattle.fraction_theory.specs.Order.{◌<ℚ◌}
use Rattle.fraction_theory.proofs.OrderLaws.{<ℚ_irrefl}
use Rattle.linear_dict.specs.Dictionaries.{Dictionary, note_of, with_note}
use Rattle.linear_dict.specs.Notes.{Noted, noted}
use Rattle.linear_dict.proofs.SplitLemmas.{Contains-at}
use Rattle.simplex_core.specs.Posings.{column_price, kept_column, low_at, high_at}
use Rattle.simplex_core.specs.declared.bounds.Bounds.{Bounds}
use Rattle.simplex_core.proofs.KeepLemmas.{column_kept}
use Rattle.simplex_core.proofs.PutLemmas.{putting_note, putting_start, putting_step, read_at, term_is}
use Rattle.simplex_core.proofs.posing.keep_columns.Goals as goal
use Rattle.simplex_core.proofs.posing.keep_columns.Goals.{in-Equal, in-Less}

pub loop-k-init : goal.loop-k-init
loop-k-init g c = putting_start c.args.dict.now c.requires.sound c.args.dict.now.columns (kept_column g.N.Exact.value c.args.dict.now c.args.prices.now c.args.bounds.now) c.requires.sound.put_in.second_distinct c.requires.sound.put_in.second_named

pub note-note-requires-clause-named : goal.note-note-requires-clause-named
note-note-requires-clause-named g c =
    let d : Dictionary = c.args.dict.now in
    let k : ℕ = c.loop-k.k in
    let name : c.column_name-name.result ≡ slice_index d.columns k = c.column_name-name.ensures ∙ ap (λ (x : Dictionary). slice_index x.columns k) c.loop-k.invariant.is in
    let hk : k < length d.columns = Prim.omega (arith, c.loop-k-test.true, c.requires.prices) in
    subst (λ (x : Dictionary). Contains x.names c.column_name-name.result) (sym c.loop-k.invariant.is)
    (subst (Contains d.names) (sym name) (c.requires.sound.put_in.second_named (slice_index d.columns k) (Contains-at d.columns k hk)))

pub set_note-requires-clause-named : goal.set_note-requires-clause-named
set_note-requires-clause-named g c =
    let d : Dictionary = c.args.dict.now in
    let k : ℕ = c.loop-k.k in
    let name : c.column_name-name.result ≡ slice_index d.columns k = c.column_name-name.ensures ∙ ap (λ (x : Dictionary). slice_index x.columns k) c.loop-k.invariant.is in
    let hk : k < length d.columns = Prim.omega (arith, c.loop-k-test.true, c.requires.prices) in
    subst (λ (x : Dictionary). Contains x.names c.column_name-name.result) (sym c.loop-k.invariant.is)
    (subst (Contains d.names) (sym name) (c.requires.sound.put_in.second_named (slice_index d.columns k) (Contains-at d.columns k hk)))

pub loop-k-preserved : goal.loop-k-preserved
loop-k-preserved g c =
    let value = g.N.Exact.value in
    let d : Dictionary = c.args.dict.now in
    let e : Dictionary = c.loop-k.dict in
    let k : ℕ = c.loop-k.k in
    let w : ℕ = slice_index d.columns k in
    let f : ℕ → Noted = kept_column value d c.args.prices.now c.args.bounds.now in
    let name : c.column_name-name.result ≡ w = c.column_name-name.ensures ∙ ap (λ (x : Dictionary). slice_index x.columns k) c.loop-k.invariant.is in
    let hp : k < length c.args.prices.now = c.loop-k-test.true in
    let hk : k < length d.columns = Prim.omega (arith, c.loop-k-test.true, c.requires.prices) in
    let hb : k < length c.args.bounds.now = Prim.omega (arith, hk, c.requires.bounds) in
    let was : noted value c.note-note.result ≡ note_of d w =
    c.note-note.ensures ∙ ap (note_of e) name ∙ putting_note d c.requires.sound d.columns f c.requires.sound.put_in.second_distinct c.requires.sound.put_in.second_named k e c.loop-k.invariant hk in
    let old : Fraction = value c.note-note.result.price in
    let new : Fraction = value c.index-prices-k.result in
    let x : Fraction = value c.match-order.reduced in
    let told : ((old ≡ new) × (x ≡ (note_of d w).reduced)) ⊎ ((old ≢ new) × (x ≡ new)) = elim c.match-order.branch [
      | in-Equal v ↦ inl (subst (λ (o : Ordering). MatchOrdering o (old <ℚ new) (old ≡ new) (new <ℚ old)) v.in-Equal.is c.order.ensures, ap value v.reduced-is ∙ ap Noted.reduced was)
      | in-Less v ↦ inr (
        elim v.in-Less.is [
          | inl l ↦ λ q. <ℚ_irrefl old (subst (λ (t : Fraction). old <ℚ t) (sym q) (subst (λ (o : Ordering). MatchOrdering o (old <ℚ new) (old ≡ new) (new <ℚ old)) l c.order.ensures))
          | inr l ↦ λ q. <ℚ_irrefl new (subst (λ (t : Fraction). new <ℚ t) q (subst (λ (o : Ordering). MatchOrdering o (old <ℚ new) (old ≡ new) (new <ℚ old)) l c.order.ensures))
        ],
        ap value v.reduced-is,
      )
    ] in
    let blank : Noted = noted value c.term-blank.result in
    putting_step d c.requires.sound d.columns f c.requires.sound.put_in.second_distinct c.requires.sound.put_in.second_named
    k e c.loop-k.invariant (record blank { reduced = x }) c.set_note.new.self hk
    (c.set_note.ensures ∙ ap (λ (v : ℕ). with_note e v (let y : Noted = record blank { reduced = x } in y)) name)
    (column_kept value d c.requires.sound c.requires.priced c.args.prices.now c.requires.kept c.args.bounds.now k hk blank x old new
    (c.term-blank.ensures
    ∙ term_is (value c.index-prices-k.result) (column_price value c.args.prices.now k) (value c.index-bounds-k.result.low) (low_at value c.args.bounds.now k) (value c.index-bounds-k.result.high) (high_at value c.args.bounds.now k)
    (read_at value c.args.prices.now k c.index-prices-k.result (whole (pos 0)) hp c.index-prices-k.is)
    (read_at (λ (b : Bounds g.row.N.Denot). value b.low) c.args.bounds.now k c.index-bounds-k.result (whole (pos 0)) hb c.index-bounds-k.is)
    (read_at (λ (b : Bounds g.row.N.Denot). value b.high) c.args.bounds.now k c.index-bounds-k.result (whole (pos 0)) hb c.index-bounds-k.is))
    (ap Noted.price was)
    (read_at value c.args.prices.now k c.index-prices-k.result (whole (pos 0)) hp c.index-prices-k.is)
    told)
