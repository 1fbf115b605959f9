use Rattle.std.proofs.lemmas.Result.{err_from_is_err_and}
use Rattle.std.proofs.Common.{Err, ◌≡◌, ◌∙◌, ap, sym, subst₂, slice_index}
use Rattle.fraction_theory.specs.Fraction.{Fraction}
use Rattle.linear_dict.specs.Dictionaries.{choice_of, system_in}
use Rattle.linear_dict.proofs.SplitLemmas.{Contains-at}
use Rattle.linear_system.proofs.SameSystems.{same_pair}
use Rattle.simplex_theory.proofs.SameStates.{same_margin}
use Rattle.market_model.specs.declared.answered.Duals.{Duals}
use Rattle.market_model.specs.declared.stops.Stop.TheVariants.{Passed as StoppedBy}
use Rattle.market_system.specs.MarketSystem.{system_of}
use Rattle.market_dict.specs.Findings.{IsStuckBy}
use Rattle.market_dict.specs.Takings.{taken_of}
use Rattle.market_dict.proofs.HoldingLaws.{shown_choice, empty_shows}
use Rattle.market_dict.proofs.ReadingLemmas.{known_names}
use Rattle.market_dict.proofs.solving.nothing.Goals as goal

pub returns-in_err-margin-clause-pair : goal.returns-in_err-margin-clause-pair
returns-in_err-margin-clause-pair g c = λ ts holds.
    let d = c.args.dict in
    let p = err_from_is_err_and c.from_residual-in_err-margin.result c.from_residual-in_err-margin.ensures.1 in
    let given : c.from_residual-in_err-margin.result ≡ Err (StoppedBy c.in_err-margin.field-0.0) = p.1 ∙ ap Err p.2 in
    rw given (same_pair (system_in d) (system_of c.args.market.now (taken_of ts)) holds.same g.N.Exact.bound _ _ _ c.in_err-margin.ensures.pair)

pub returns-clause-found : goal.returns-clause-found
returns-clause-found g c = λ ts holds.
    let m = c.args.market.now in
    let d = c.args.dict in
    let b = slice_index d.basics c.args.row in
    let s = system_of m (taken_of ts) in
    let shows = empty_shows m ts d c.args.row c.args.above c.lines-lines.ensures.market holds c.requires.shows c.requires.empty in
    let duals = c.in_ok-duals.ensures ts holds.holds in
    let named = holds.holds.sound.split.first_named b (Contains-at d.basics c.args.row c.requires.empty.within) in
    let margin = c.in_ok-margin.ensures.margin ∙ same_margin (system_in d) s holds.same (choice_of d) b c.args.above (known_names d b named) in (
      holds.holds,
      subst₂ (λ (ds : Duals Fraction) (x : Fraction). IsStuckBy m ts ds x) (sym duals) (sym margin)
          (record {
            choice = choice_of d;
            is_choice = shown_choice m ts d holds c.requires.shows;
            shows = shows.of_choice;
            proper = shows.farkas.proper;
            leaves = shows.leaves;
          }),
    )
