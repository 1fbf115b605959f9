use Rattle.std.proofs.Common.{Err, ap, ◌≡◌, ◌∙◌, refl, subst}
use Rattle.std.proofs.lemmas.Result.{err_from_is_err_and}
use Rattle.market_model.specs.Valued.{duals_at}
use Rattle.market_dict.specs.Findings.{IsFound}
use Rattle.market_dict.specs.declared.solving.Found.{Found}
use Rattle.market_dict.specs.declared.solving.Found.TheVariants as found
use Rattle.clear_loop.proofs.BoundLemmas.{stuck_prices}
use Rattle.clear_loop.proofs.rounds.one_round.Given.{Over}
use Rattle.clear_loop.proofs.rounds.one_round.Goals as goal
use Rattle.clear_loop.proofs.rounds.one_round.Goals.{In-Nothing}

pub after_best-requires-clause-found : goal.after_best-requires-clause-found
after_best-requires-clause-found g c =
    let m = c.args.market.now in
    let ts = c.args.hand.taken.takings in
    subst (λ (f : Found g.row.N.Denot). IsFound g.N.Exact.value m ts f) c.in-Best.is (c.in_ok-dict.ensures.found ts c.requires.start c.requires.posing)

-- where nothing is feasible
nothing_found : (g : Over) (c : In-Nothing g) → IsFound g.N.Exact.value c.args.market.now c.args.hand.taken.takings (found.Nothing c.in-Nothing.dict c.in-Nothing.duals c.in-Nothing.margin)
nothing_found g c =
    let m = c.args.market.now in
    let ts = c.args.hand.taken.takings in
    subst (λ (f : Found g.row.N.Denot). IsFound g.N.Exact.value m ts f) c.in-Nothing.is (c.in_ok-dict.ensures.found ts c.requires.start c.requires.posing)

pub bound_of-requires-clause-stuck : goal.bound_of-requires-clause-stuck
bound_of-requires-clause-stuck g c = (c.args.hand.taken.takings, (nothing_found g (goal.at.bound_of-requires-clause-stuck g c).In-Nothing).1)

pub returns-in_ok-bound-in-Nothing-clause-round : goal.returns-in_ok-bound-in-Nothing-clause-round
returns-in_ok-bound-in-Nothing-clause-round g c =
    let value = g.N.Exact.value in
    let none = nothing_found g (goal.at.returns-in_ok-bound-in-Nothing-clause-round g c).In-Nothing in (
      record {
        holds = none.0;
        listed = c.requires.listed;
        end = (
          c.in_ok-bound-in-Nothing.ensures.farkas,
          stuck_prices c.args.market.now c.args.hand.taken.takings (duals_at value c.in-Nothing.duals) (value c.in-Nothing.margin) none.1,
        );
      },
      refl,
    )

pub returns-in_err-bound-in-Nothing-clause-stops : goal.returns-in_err-bound-in-Nothing-clause-stops
returns-in_err-bound-in-Nothing-clause-stops g c =
    let none = nothing_found g (goal.at.returns-in_err-bound-in-Nothing-clause-stops g c).In-Nothing in
    let p = err_from_is_err_and c.from_residual-in_err-bound-in-Nothing.result c.from_residual-in_err-bound-in-Nothing.ensures.1 in
    let given : c.from_residual-in_err-bound-in-Nothing.result ≡ Err c.in_err-bound-in-Nothing.field-0.0 = p.1 ∙ ap Err p.2 in
    rw given (c.in_err-bound-in-Nothing.ensures.stops c.args.hand.taken.takings none.1)
