use Rattle.std.proofs.Common.{◌<◌, ℕ, Bool, Option, subst, sym}
use Rattle.std.proofs.lemmas.Result.{err_from_is_err_and}
use Rattle.linear_dict.specs.Dictionaries.{Dictionary, choice_of, system_in}
use Rattle.simplex_theory.specs.States.{IsSolved}
use Rattle.simplex_core.specs.Fixed.{KeepsFixed}
use Rattle.simplex_core.specs.Outcomes.{Keeps, ShowsChoice}
use Rattle.simplex_core.specs.States.{state_of}
use Rattle.simplex_core.specs.Searches.{IsEntering}
use Rattle.simplex_core.specs.declared.enter.Candidate.{Candidate}
use Rattle.simplex_core.proofs.FixedLemmas.{fixed_own}
use Rattle.simplex_core.proofs.Nexts.{IsTurn, to_come, to_come_falls}
use Rattle.simplex_core.proofs.RunLemmas.{fixed_before, fixed_turned, keeps_itself, keeps_turned, ready_reduced, shows_choice, solved_at, empty_at}
use Rattle.simplex_core.proofs.solving.settle.Goals as goal

pub loop-variable-init : goal.loop-variable-init
loop-variable-init g c = record { kept = keeps_itself c.args.dict.now c.requires; fixed = fixed_own c.args.dict.now c.requires.sound }

pub step-requires-clause-enters : goal.step-requires-clause-enters
step-requires-clause-enters g c =
    let found = subst (λ (o : Option (Candidate g.row.N.Denot)). IsEntering c.loop-variable.dict c.in-Some.variable.name c.in-Some.variable.above o) c.in-Some-2.is c.in_ok-candidate.ensures.found in
    found.2

pub loop-variable-smaller : goal.loop-variable-smaller
loop-variable-smaller g c =
    let d : Dictionary = c.loop-variable.dict in
    let v : ℕ = c.in-Some.variable.name in
    let a : Bool = c.in-Some.variable.above in
    let k : ℕ = c.in-Some-2.candidate.name in
    let found = subst (λ (o : Option (Candidate g.row.N.Denot)). IsEntering d v a o) c.in-Some-2.is c.in_ok-candidate.ensures.found in
    let turn : IsTurn d v k a = record { leaves = c.in-Some.ensures.2; enters = found.2 } in
    subst (λ (x : Dictionary). to_come x < to_come d) (sym c.in_ok-step-in-Some-2.ensures.turned) (to_come_falls d c.loop-variable.invariant.kept.ready v k a turn)

pub loop-variable-preserved : goal.loop-variable-preserved
loop-variable-preserved g c =
    let d : Dictionary = c.loop-variable.dict in
    let v : ℕ = c.in-Some.variable.name in
    let a : Bool = c.in-Some.variable.above in
    let k : ℕ = c.in-Some-2.candidate.name in
    let found = subst (λ (o : Option (Candidate g.row.N.Denot)). IsEntering d v a o) c.in-Some-2.is c.in_ok-candidate.ensures.found in
    let turn : IsTurn d v k a = record { leaves = c.in-Some.ensures.2; enters = found.2 } in
    let first : Dictionary = c.args.dict.now in
    let next = sym c.in_ok-step-in-Some-2.ensures.turned in
    record {
      kept = subst (λ (x : Dictionary). Keeps first x) next (keeps_turned first d c.loop-variable.invariant.kept v k a turn);
      fixed = subst (λ (x : Dictionary). KeepsFixed first (choice_of x)) next (fixed_turned first d c.requires c.loop-variable.invariant.kept c.loop-variable.invariant.fixed v k a turn);
    }

pub returns-in-None-clause-settled : goal.returns-in-None-clause-settled
returns-in-None-clause-settled g c =
    let d : Dictionary = c.loop-variable.dict in
    let v : ℕ = c.in-Some.variable.name in
    let a : Bool = c.in-Some.variable.above in
    let idle = subst (λ (o : Option (Candidate g.row.N.Denot)). IsEntering d v a o) c.in-None.is c.in_ok-candidate.ensures.found in
    (c.loop-variable.invariant.kept, shows_choice d c.loop-variable.invariant.kept.ready, empty_at d c.loop-variable.invariant.kept.ready v c.in-Some.variable.row a c.in-Some.ensures.2 idle c.in-Some.ensures.0 c.in-Some.ensures.1)

pub returns-clause-settled : goal.returns-clause-settled
returns-clause-settled g c =
    subst (λ (x : Dictionary). Keeps c.args.dict.now x × ShowsChoice x × IsSolved (system_in x) (state_of x)) (sym c.keep_reduced_prices.ensures)
    (c.loop-variable.invariant.kept, shows_choice c.loop-variable.dict c.loop-variable.invariant.kept.ready, solved_at c.loop-variable.dict c.loop-variable.invariant.kept.ready c.in_default.ensures)

pub keep_reduced_prices-requires : goal.keep_reduced_prices-requires
keep_reduced_prices-requires g c = ready_reduced c.loop-variable.dict c.loop-variable.invariant.kept.ready

pub returns-clause-fixed : goal.returns-clause-fixed
returns-clause-fixed g c = subst (λ (x : Dictionary). KeepsFixed c.args.dict.now (choice_of x)) (sym c.keep_reduced_prices.ensures) c.loop-variable.invariant.fixed

pub returns-in_err-candidate-clause-pair : goal.returns-in_err-candidate-clause-pair
returns-in_err-candidate-clause-pair g c =
    let p = err_from_is_err_and c.from_residual.result c.from_residual.ensures.1 in
    rw (p.1, p.2) (fixed_before g.N.Exact.value g.N.Exact.bound c.args.dict.now c.loop-variable.dict c.requires c.loop-variable.invariant.kept c.loop-variable.invariant.fixed
    c.in_err-candidate.field-0.0 c.in_err-candidate.ensures.pair)

pub returns-in_err-step-in-Some-2-clause-pair : goal.returns-in_err-step-in-Some-2-clause-pair
returns-in_err-step-in-Some-2-clause-pair g c =
    let p = err_from_is_err_and c.from_residual-in_err-step-in-Some-2.result c.from_residual-in_err-step-in-Some-2.ensures.1 in
    rw (p.1, p.2) (fixed_before g.N.Exact.value g.N.Exact.bound c.args.dict.now c.loop-variable.dict c.requires c.loop-variable.invariant.kept c.loop-variable.invariant.fixed
    c.in_err-step-in-Some-2.field-0.0 c.in_err-step-in-Some-2.ensures.pair)
