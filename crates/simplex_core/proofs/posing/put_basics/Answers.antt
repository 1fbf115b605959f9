use Rattle.std.proofs.Common.{◌≡◌, ◌<◌, ◌∙◌, ℕ, arith, ap, sym, subst, length, slice_index}
use Rattle.std.specs.List.{Contains}
use Rattle.std.proofs.lemmas.Result.{err_from_is_err_and}
use Rattle.linear_dict.specs.Dictionaries.{Dictionary, IsDictionary}
use Rattle.linear_dict.proofs.SplitLemmas.{Contains-at}
use Rattle.simplex_core.specs.Operations.{BoundShare}
use Rattle.simplex_core.proofs.Adding.{value_so_far, bounds_start, bounds_more, bounds_skip, bounds_end, bound_pair}
use Rattle.simplex_core.proofs.AnewLaws.{anew_sound, anew_live, anew_names, anew_others, anew_basics}
use Rattle.simplex_core.proofs.Ranks.{ranked_named}
use Rattle.simplex_core.proofs.posing.put_basics.Goals as goal
use Rattle.simplex_core.proofs.posing.put_basics.Goals.{in-Column+in_ok-add_bound, in_default}

pub loop-rank-init : goal.loop-rank-init
loop-rank-init g c = bounds_start c.args.dict.now c.requires.sound c.requires.blank

pub ranked-name-requires-clause-live : goal.ranked-name-requires-clause-live
ranked-name-requires-clause-live g c =
    let d : Dictionary = c.args.dict.now in
    ap (λ (x : Dictionary). x.spent) c.loop-rank.invariant ∙ anew_live d c.requires.sound (value_so_far d c.loop-rank.rank) ∙ c.requires.live

pub ranked-name-requires-clause-within : goal.ranked-name-requires-clause-within
ranked-name-requires-clause-within g c =
    let d : Dictionary = c.args.dict.now in
    let same : length c.loop-rank.dict.names ≡ length d.names = ap (λ (x : Dictionary). length x.names) c.loop-rank.invariant ∙ ap length (anew_names d c.requires.sound (value_so_far d c.loop-rank.rank)) in
    Prim.omega (arith, same, c.loop-rank-test.true, c.name_count-rank-end.ensures)

pub place-requires-clause-live : goal.place-requires-clause-live
place-requires-clause-live g c =
    let d : Dictionary = c.args.dict.now in
    ap (λ (x : Dictionary). x.spent) c.loop-rank.invariant ∙ anew_live d c.requires.sound (value_so_far d c.loop-rank.rank) ∙ c.requires.live

pub add_bound-requires-clause-live : goal.add_bound-requires-clause-live
add_bound-requires-clause-live g c =
    let d : Dictionary = c.args.dict.now in
    ap (λ (x : Dictionary). x.spent) c.loop-rank.invariant ∙ anew_live d c.requires.sound (value_so_far d c.loop-rank.rank) ∙ c.requires.live

pub add_bound-requires-clause-sound : goal.add_bound-requires-clause-sound
add_bound-requires-clause-sound g c =
    let d : Dictionary = c.args.dict.now in
    subst IsDictionary (sym c.loop-rank.invariant) (anew_sound d c.requires.sound (value_so_far d c.loop-rank.rank))

pub place-requires-clause-named : goal.place-requires-clause-named
place-requires-clause-named g c =
    let d : Dictionary = c.args.dict.now in
    let e : Dictionary = c.loop-rank.dict in
    let s : IsDictionary e = subst IsDictionary (sym c.loop-rank.invariant) (anew_sound d c.requires.sound (value_so_far d c.loop-rank.rank)) in
    let same : length e.names ≡ length d.names = ap (λ (x : Dictionary). length x.names) c.loop-rank.invariant ∙ ap length (anew_names d c.requires.sound (value_so_far d c.loop-rank.rank)) in
    subst (Contains e.names) (sym c.ranked-name.ensures) (ranked_named e s c.loop-rank.rank (Prim.omega (arith, same, c.loop-rank-test.true, c.name_count-rank-end.ensures)))

pub loop-rank-preserved : goal.loop-rank-preserved
loop-rank-preserved g c =
    let d : Dictionary = c.args.dict.now in
    let s = c.requires.sound in
    let k : ℕ = c.loop-rank.rank in
    let f = value_so_far d k in
    let e : Dictionary = c.loop-rank.dict in
    let hk : k < length d.names = Prim.omega (arith, c.loop-rank-test.true, c.name_count-rank-end.ensures) in
    let name : slice_index d.names k ≡ c.ranked-name.result = sym (c.ranked-name.ensures ∙ ap (λ (x : Dictionary). slice_index x.names k) c.loop-rank.invariant ∙ ap (λ ns. slice_index ns k) (anew_names d s f)) in
    elim c.match-place.branch [
      | in-Column+in_ok-add_bound w ↦
          let other : Contains e.others c.ranked-name.result = subst (Contains e.others) w.in-Column.ensures.1 (Contains-at e.others w.in-Column.column w.in-Column.ensures.0) in
          w.dict-is ∙ bounds_more d s k c.ranked-name.result hk name (subst (λ ws. Contains ws c.ranked-name.result) (ap Dictionary.others c.loop-rank.invariant ∙ anew_others d s f) other)
          e w.add_bound.new.dict c.loop-rank.invariant w.in_ok-add_bound.ensures.notes
      | in_default w ↦
          let basic : Contains e.basics c.ranked-name.result = subst (Contains e.basics) w.in_default.ensures.1 (Contains-at e.basics w.in_default.field-0 w.in_default.ensures.0) in
          w.dict-is ∙ bounds_skip d s k c.ranked-name.result hk name (subst (λ ws. Contains ws c.ranked-name.result) (ap Dictionary.basics c.loop-rank.invariant ∙ anew_basics d s f) basic)
          e c.loop-rank.invariant
    ]

pub returns-clause-notes : goal.returns-clause-notes
returns-clause-notes g c = bounds_end c.args.dict.now c.requires.sound c.loop-rank.rank (Prim.omega (arith, c.loop-rank-test.false, c.name_count-rank-end.ensures)) c.loop-rank.dict c.loop-rank.invariant

pub returns-in_err-add_bound-clause-pair : goal.returns-in_err-add_bound-clause-pair
returns-in_err-add_bound-clause-pair g c =
    let value = g.N.Exact.value in
    let d : Dictionary = c.args.dict.now in
    let s = c.requires.sound in
    let k : ℕ = c.loop-rank.rank in
    let e : Dictionary = c.loop-rank.dict in
    let q = c.in_err-add_bound.field-0.0 in
    let r = c.in_err-add_bound.ensures.stops in
    let name : ℕ = c.ranked-name.result in
    let hk : k < length d.names = Prim.omega (arith, c.loop-rank-test.true, c.name_count-rank-end.ensures) in
    let at : slice_index d.names k ≡ name = sym (c.ranked-name.ensures ∙ ap (λ (x : Dictionary). slice_index x.names k) c.loop-rank.invariant ∙ ap (λ ns. slice_index ns k) (anew_names d s (value_so_far d k))) in
    let other : Contains e.others name = subst (Contains e.others) c.in-Column.ensures.1 (Contains-at e.others c.in-Column.column c.in-Column.ensures.0) in
    let p = err_from_is_err_and c.from_residual.result c.from_residual.ensures.1 in
    rw (p.1, p.2)
    (bound_pair d s k c.requires.live name hk at (subst (λ ws. Contains ws name) (ap Dictionary.others c.loop-rank.invariant ∙ anew_others d s (value_so_far d k)) other)
    g.N.Exact.bound q.op (value q.left) (value q.right) r.x r.a r.b (subst (λ (x : Dictionary). BoundShare x name r.x r.a r.b) c.loop-rank.invariant r.asked) r.refused)
