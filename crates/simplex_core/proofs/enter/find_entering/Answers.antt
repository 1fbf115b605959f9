use Rattle.std.proofs.Common.{◌<◌, ◌+◌, ℕ, Bool, Option, arith, sym, subst, length, slice_index}
use Rattle.std.specs.List.{Contains}
use Rattle.linear_dict.specs.Dictionaries.{Dictionary, system_in}
use Rattle.linear_dict.proofs.SplitLemmas.{Contains-at, in_others}
use Rattle.simplex_theory.specs.Steps.{Helps}
use Rattle.simplex_core.specs.States.{state_of}
use Rattle.simplex_core.specs.declared.enter.Candidate.{Candidate}
use Rattle.simplex_core.proofs.RatioLemmas.{IsBestSoFar, best_start, best_skip, best_more, best_end}
use Rattle.simplex_core.specs.Searches.{IsCandidate}
use Rattle.simplex_core.proofs.enter.find_entering.Goals as goal
use Rattle.simplex_core.proofs.enter.find_entering.Goals.{in-Column+in_ok-next+in-Some, in-Column+in_ok-next+in_default-2, in_default}

pub loop-rank-init : goal.loop-rank-init
loop-rank-init g c = best_start g.N.Exact.value c.args.dict.now c.requires.sound c.args.leaving.now.name c.args.leaving.now.above

pub loop-rank-preserved : goal.loop-rank-preserved
unfolding state_of
loop-rank-preserved g c =
    let value = g.N.Exact.value in
    let d : Dictionary = c.args.dict.now in
    let v : ℕ = c.args.leaving.now.name in
    let a : Bool = c.args.leaving.now.above in
    let k : ℕ = c.loop-rank.rank in
    let hk : k < length d.names = Prim.omega (arith, c.loop-rank-test.true, c.name_count-rank-end.ensures) in
    elim c.match-place_at.branch [
      | in-Column+in_ok-next+in-Some w ↦
          let found = subst (IsCandidate value d v a (slice_index d.names k)) w.in-Some.is w.in_ok-next.ensures.candidate in
          subst (λ (b : Option (Candidate g.row.N.Denot)). IsBestSoFar value d v a (k + 1) b) (sym w.best-is)
          (best_more value d c.requires.sound v a k hk w.in-Some.next found.0 (subst (λ (x : ℕ). Helps (system_in d) (state_of d) v a x) (sym found.0) found.1) found.2 c.loop-rank.best w.lesser.result w.lesser.ensures c.loop-rank.invariant)
      | in-Column+in_ok-next+in_default-2 w ↦
          let idle = subst (IsCandidate value d v a (slice_index d.names k)) w.in_default-2.is w.in_ok-next.ensures.candidate in
          subst (λ (b : Option (Candidate g.row.N.Denot)). IsBestSoFar value d v a (k + 1) b) (sym w.best-is)
          (best_skip value d c.requires.sound v a k hk c.loop-rank.best idle c.loop-rank.invariant)
      | in_default w ↦ subst (λ (b : Option (Candidate g.row.N.Denot)). IsBestSoFar value d v a (k + 1) b) (sym w.best-is)
          (best_skip value d c.requires.sound v a k hk c.loop-rank.best
          (λ p. c.requires.sound.split.apart (slice_index d.names k) (subst (Contains d.basics) w.in_default.ensures.1 (Contains-at d.basics w.in_default.field-0 w.in_default.ensures.0))
          (in_others d c.requires.sound (slice_index d.names k) p.other)) c.loop-rank.invariant)
    ]

pub returns-clause-found : goal.returns-clause-found
returns-clause-found g c = best_end g.N.Exact.value c.args.dict.now c.requires.sound c.args.leaving.now.name c.args.leaving.now.above c.loop-rank.rank c.loop-rank.best
    (Prim.omega (arith, c.loop-rank-test.false, c.name_count-rank-end.ensures)) c.loop-rank.invariant
