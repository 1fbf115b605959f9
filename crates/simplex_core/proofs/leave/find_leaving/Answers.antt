use Rattle.std.proofs.Common.{◌<◌, ◌∙◌, ℕ, arith, sym, subst, length, slice_index}
use Rattle.std.specs.List.{Contains}
use Rattle.linear_dict.specs.Dictionaries.{Dictionary, system_in}
use Rattle.linear_dict.specs.Notes.{Noted, noted}
use Rattle.linear_dict.proofs.SplitLemmas.{Contains-at}
use Rattle.simplex_theory.specs.States.{Violates}
use Rattle.simplex_theory.specs.Steps.{Leaves}
use Rattle.simplex_core.specs.States.{state_of}
use Rattle.simplex_core.proofs.Helping.{low_is, high_is, value_is}
use Rattle.simplex_core.proofs.SearchLemmas.{all_within_start, all_within_more, first_leaves, all_within, side_violates, side_within}
use Rattle.simplex_core.proofs.leave.find_leaving.Goals as goal
use Rattle.simplex_core.proofs.leave.find_leaving.Goals.{in-Row+in_default-violated_side, in_default}

pub loop-rank-init : goal.loop-rank-init
loop-rank-init g c = all_within_start c.args.dict.now

pub returns-in-Some : goal.returns-in-Some
returns-in-Some g c =
    let d : Dictionary = c.args.dict.now in
    let k : ℕ = c.loop-rank.rank in
    let ranked : ℕ = slice_index d.names k in
    let n : Noted = noted g.N.Exact.value c.note_at.result in
    let is = c.note_at.ensures in
    let below : k < length d.names = Prim.omega (arith, c.loop-rank-test.true, c.name_count-rank-end.ensures) in
    let past : Violates (system_in d) (state_of d).value c.in-Some.above ranked = side_violates (system_in d) (state_of d).value ranked n.low n.high n.value (low_is d ranked n is) (high_is d ranked n is) (value_is d ranked n is) c.in-Some.above c.in-Some.ensures in (
      c.in-Row.ensures.0,
      c.in-Row.ensures.1 ∙ sym c.ranked-name.ensures,
      subst (λ (w : ℕ). Leaves (system_in d) (state_of d) w c.in-Some.above) (sym c.ranked-name.ensures)
          (first_leaves d c.requires.sound k c.in-Row.row c.in-Some.above c.loop-rank.invariant below c.in-Row.ensures.0 c.in-Row.ensures.1 past),
    )

pub loop-rank-preserved : goal.loop-rank-preserved
loop-rank-preserved g c =
    let d : Dictionary = c.args.dict.now in
    let ranked : ℕ = slice_index d.names c.loop-rank.rank in
    all_within_more d c.loop-rank.rank c.loop-rank.invariant (λ m. elim c.match-place_at.branch [
      | in-Row+in_default-violated_side w ↦
          let n : Noted = noted g.N.Exact.value w.note_at.result in
          let is = w.note_at.ensures in
          side_within (system_in d) (state_of d).value ranked n.low n.high n.value (low_is d ranked n is) (high_is d ranked n is) (value_is d ranked n is) w.in_default-violated_side.ensures
      | in_default w ↦ absurd (c.requires.sound.split.apart ranked m
          (subst (Contains d.others) w.in_default.ensures.1 (Contains-at d.others w.in_default.field-0 w.in_default.ensures.0)))
    ])

pub returns : goal.returns
returns g c = all_within c.args.dict.now c.requires.sound c.loop-rank.rank c.loop-rank.invariant (Prim.omega (arith, c.loop-rank-test.false, c.name_count-rank-end.ensures))
