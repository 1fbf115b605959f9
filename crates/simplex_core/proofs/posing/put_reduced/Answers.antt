use Rattle.std.proofs.Common.{◌≡◌, ◌<◌, ◌∙◌, ℕ, arith, ap, sym, subst, length, slice_index}
use Rattle.std.specs.List.{Contains}
use Rattle.std.proofs.lemmas.Result.{err_from_is_err_and}
use Rattle.linear_dict.specs.Dictionaries.{Dictionary, IsDictionary}
use Rattle.simplex_core.proofs.Adding.{reduced_so_far, prices_start, prices_more, prices_end, price_pair}
use Rattle.simplex_core.proofs.AnewLaws.{anew_sound, anew_live, anew_names}
use Rattle.simplex_core.proofs.Ranks.{ranked_named}
use Rattle.simplex_core.specs.Operations.{PriceShare}
use Rattle.simplex_core.proofs.posing.put_reduced.Goals as goal

pub loop-rank-init : goal.loop-rank-init
loop-rank-init g c = prices_start c.args.dict.now c.requires.sound c.requires.blank

pub ranked-name-requires-clause-live : goal.ranked-name-requires-clause-live
ranked-name-requires-clause-live g c =
    let d : Dictionary = c.args.dict.now in
    ap (λ (x : Dictionary). x.spent) c.loop-rank.invariant ∙ anew_live d c.requires.sound (reduced_so_far d c.loop-rank.rank) ∙ c.requires.live

pub ranked-name-requires-clause-within : goal.ranked-name-requires-clause-within
ranked-name-requires-clause-within g c =
    let d : Dictionary = c.args.dict.now in
    let same : length c.loop-rank.dict.names ≡ length d.names = ap (λ (x : Dictionary). length x.names) c.loop-rank.invariant ∙ ap length (anew_names d c.requires.sound (reduced_so_far d c.loop-rank.rank)) in
    Prim.omega (arith, same, c.loop-rank-test.true, c.name_count-rank-end.ensures)

pub add_price-requires-clause-live : goal.add_price-requires-clause-live
add_price-requires-clause-live g c =
    let d : Dictionary = c.args.dict.now in
    ap (λ (x : Dictionary). x.spent) c.loop-rank.invariant ∙ anew_live d c.requires.sound (reduced_so_far d c.loop-rank.rank) ∙ c.requires.live

pub add_price-requires-clause-sound : goal.add_price-requires-clause-sound
add_price-requires-clause-sound g c =
    let d : Dictionary = c.args.dict.now in
    subst IsDictionary (sym c.loop-rank.invariant) (anew_sound d c.requires.sound (reduced_so_far d c.loop-rank.rank))

pub add_price-requires-clause-named : goal.add_price-requires-clause-named
add_price-requires-clause-named g c =
    let d : Dictionary = c.args.dict.now in
    let e : Dictionary = c.loop-rank.dict in
    let s : IsDictionary e = subst IsDictionary (sym c.loop-rank.invariant) (anew_sound d c.requires.sound (reduced_so_far d c.loop-rank.rank)) in
    let same : length e.names ≡ length d.names = ap (λ (x : Dictionary). length x.names) c.loop-rank.invariant ∙ ap length (anew_names d c.requires.sound (reduced_so_far d c.loop-rank.rank)) in
    subst (Contains e.names) (sym c.ranked-name.ensures) (ranked_named e s c.loop-rank.rank (Prim.omega (arith, same, c.loop-rank-test.true, c.name_count-rank-end.ensures)))

pub loop-rank-preserved : goal.loop-rank-preserved
loop-rank-preserved g c =
    let d : Dictionary = c.args.dict.now in
    let k : ℕ = c.loop-rank.rank in
    let f = reduced_so_far d k in
    let hk : k < length d.names = Prim.omega (arith, c.loop-rank-test.true, c.name_count-rank-end.ensures) in
    let name : slice_index d.names k ≡ c.ranked-name.result = sym (c.ranked-name.ensures ∙ ap (λ (x : Dictionary). slice_index x.names k) c.loop-rank.invariant ∙ ap (λ ns. slice_index ns k) (anew_names d c.requires.sound f)) in
    prices_more d c.requires.sound k c.ranked-name.result hk name c.loop-rank.dict c.add_price.new.dict c.loop-rank.invariant c.in_ok-add_price.ensures.notes

pub returns-clause-notes : goal.returns-clause-notes
returns-clause-notes g c = prices_end c.args.dict.now c.requires.sound c.requires.unpriced c.loop-rank.rank (Prim.omega (arith, c.loop-rank-test.false, c.name_count-rank-end.ensures)) c.loop-rank.dict c.loop-rank.invariant

pub returns-in_err-add_price-clause-pair : goal.returns-in_err-add_price-clause-pair
returns-in_err-add_price-clause-pair g c =
    let value = g.N.Exact.value in
    let d : Dictionary = c.args.dict.now in
    let k : ℕ = c.loop-rank.rank in
    let e = c.in_err-add_price.field-0.0 in
    let r = c.in_err-add_price.ensures.stops in
    let hk : k < length d.names = Prim.omega (arith, c.loop-rank-test.true, c.name_count-rank-end.ensures) in
    let name : slice_index d.names k ≡ c.ranked-name.result = sym (c.ranked-name.ensures ∙ ap (λ (x : Dictionary). slice_index x.names k) c.loop-rank.invariant ∙ ap (λ ns. slice_index ns k) (anew_names d c.requires.sound (reduced_so_far d k))) in
    let p = err_from_is_err_and c.from_residual.result c.from_residual.ensures.1 in
    rw (p.1, p.2)
    (price_pair d c.requires.sound k c.requires.live c.ranked-name.result hk name c.requires.unpriced g.N.Exact.bound e.op (value e.left) (value e.right) r.x r.a r.b
    (subst (λ (x : Dictionary). PriceShare x c.ranked-name.result r.x r.a r.b) c.loop-rank.invariant r.asked) r.refused)
