use Rattle.std.proofs.Common.{◌∙◌, ap, sym, subst}
use Rattle.linear_dict.specs.Dictionaries.{Dictionary, IsDictionary}
use Rattle.simplex_core.specs.Fixed.{IsFixedPairPosed}
use Rattle.simplex_core.specs.Posings.{IsPairPosed, reduced_note}
use Rattle.std.proofs.lemmas.Result.{err_from_is_err_and}
use Rattle.simplex_core.proofs.Adding.{stands_asked}
use Rattle.simplex_core.proofs.AnewLaws.{anew_live, anew_sound}
use Rattle.simplex_core.proofs.Pairs.{if_err_as}
use Rattle.simplex_core.proofs.PoseLemmas.{posed_pair_later, posed_plain, put_is_sound, stood_blank, posing}
use Rattle.simplex_core.proofs.StandLemmas.{stand_note}
use Rattle.simplex_core.proofs.posing.pose.Goals as goal

pub put_others-requires-clause-live : goal.put_others-requires-clause-live
put_others-requires-clause-live g c =
    let priced = c.in_ok-put_prices.ensures.priced in
    let f : Dictionary = priced.0 in
    let sound : IsDictionary f = put_is_sound g.N.Exact.value c.args.dict c.spent-live.ensures.sound c.args.prices.now c.args.bounds.now f priced.1 in
    ap (λ (x : Dictionary). x.spent) priced.2 ∙ anew_live f sound (reduced_note f) ∙ ap (λ (x : Dictionary). x.spent) priced.1.is ∙ c.requires.live

pub put_others-requires-clause-sound : goal.put_others-requires-clause-sound
put_others-requires-clause-sound g c =
    let priced = c.in_ok-put_prices.ensures.priced in
    let f : Dictionary = priced.0 in
    let sound : IsDictionary f = put_is_sound g.N.Exact.value c.args.dict c.spent-live.ensures.sound c.args.prices.now c.args.bounds.now f priced.1 in
    subst IsDictionary (sym priced.2) (anew_sound f sound (reduced_note f))

pub put_basics-requires-clause-live : goal.put_basics-requires-clause-live
put_basics-requires-clause-live g c =
    let priced = c.in_ok-put_prices.ensures.priced in
    let f : Dictionary = priced.0 in
    let sound : IsDictionary f = put_is_sound g.N.Exact.value c.args.dict c.spent-live.ensures.sound c.args.prices.now c.args.bounds.now f priced.1 in
    ap (λ (x : Dictionary). x.spent) (stands_asked f sound c.put_prices.new.dict c.put_others.new.dict priced.2 c.put_others.ensures) ∙ anew_live f sound (stand_note f)
    ∙ ap (λ (x : Dictionary). x.spent) priced.1.is ∙ c.requires.live

pub put_basics-requires-clause-sound : goal.put_basics-requires-clause-sound
put_basics-requires-clause-sound g c =
    let priced = c.in_ok-put_prices.ensures.priced in
    let f : Dictionary = priced.0 in
    let sound : IsDictionary f = put_is_sound g.N.Exact.value c.args.dict c.spent-live.ensures.sound c.args.prices.now c.args.bounds.now f priced.1 in
    subst IsDictionary (sym (stands_asked f sound c.put_prices.new.dict c.put_others.new.dict priced.2 c.put_others.ensures)) (anew_sound f sound (stand_note f))

pub put_basics-requires-clause-blank : goal.put_basics-requires-clause-blank
put_basics-requires-clause-blank g c =
    let priced = c.in_ok-put_prices.ensures.priced in
    let f : Dictionary = priced.0 in
    let sound : IsDictionary f = put_is_sound g.N.Exact.value c.args.dict c.spent-live.ensures.sound c.args.prices.now c.args.bounds.now f priced.1 in
    stood_blank g.N.Exact.value c.args.dict c.spent-live.ensures.sound c.args.prices.now c.args.bounds.now f priced.1
    c.put_others.new.dict (stands_asked f sound c.put_prices.new.dict c.put_others.new.dict priced.2 c.put_others.ensures)

pub returns-clause-posed : goal.returns-clause-posed
returns-clause-posed g c =
    let priced = c.in_ok-put_prices.ensures.priced in
    let f : Dictionary = priced.0 in
    let sound : IsDictionary f = put_is_sound g.N.Exact.value c.args.dict c.spent-live.ensures.sound c.args.prices.now c.args.bounds.now f priced.1 in
    posing g.N.Exact.value c.args.dict c.spent-live.ensures.sound c.args.prices.now c.args.bounds.now f priced.1
    c.requires.bounds c.requires.ordered c.requires.live c.put_others.new.dict c.put_basics.new.dict
    (stands_asked f sound c.put_prices.new.dict c.put_others.new.dict priced.2 c.put_others.ensures) c.in_ok-put_basics.ensures.notes

pub invariant_of-result : goal.invariant_of-result
invariant_of-result g c = (returns-clause-posed g c).ready

pub returns-in_err-put_prices-clause-fixed : goal.returns-in_err-put_prices-clause-fixed
returns-in_err-put_prices-clause-fixed g c =
    let p = err_from_is_err_and c.from_residual.result c.from_residual.ensures.1 in
    rw (p.1, p.2) c.in_err-put_prices.ensures.pair

pub returns-in_err-put_prices-clause-pair : goal.returns-in_err-put_prices-clause-pair
returns-in_err-put_prices-clause-pair g c =
    if_err_as (IsFixedPairPosed g.N.Exact.value g.N.Exact.bound c.args.dict c.args.prices.now c.args.bounds.now) (IsPairPosed g.N.Exact.value g.N.Exact.bound c.args.dict c.args.prices.now c.args.bounds.now)
    c.from_residual.result (posed_plain g.N.Exact.value g.N.Exact.bound c.args.dict c.args.prices.now c.args.bounds.now) (returns-in_err-put_prices-clause-fixed g c)

pub returns-in_err-put_basics-clause-fixed : goal.returns-in_err-put_basics-clause-fixed
returns-in_err-put_basics-clause-fixed g c =
    let priced = c.in_ok-put_prices.ensures.priced in
    let f : Dictionary = priced.0 in
    let sound : IsDictionary f = put_is_sound g.N.Exact.value c.args.dict c.spent-live.ensures.sound c.args.prices.now c.args.bounds.now f priced.1 in
    let p = err_from_is_err_and c.from_residual-in_err-put_basics.result c.from_residual-in_err-put_basics.ensures.1 in
    rw (p.1, p.2) (posed_pair_later g.N.Exact.value c.args.dict c.spent-live.ensures.sound c.args.prices.now c.args.bounds.now f priced.1
    c.requires.bounds c.requires.ordered c.requires.live g.N.Exact.bound c.in_err-put_basics.field-0.0 c.put_others.new.dict
    (stands_asked f sound c.put_prices.new.dict c.put_others.new.dict priced.2 c.put_others.ensures) c.in_err-put_basics.ensures.pair)

pub returns-in_err-put_basics-clause-pair : goal.returns-in_err-put_basics-clause-pair
returns-in_err-put_basics-clause-pair g c =
    if_err_as (IsFixedPairPosed g.N.Exact.value g.N.Exact.bound c.args.dict c.args.prices.now c.args.bounds.now) (IsPairPosed g.N.Exact.value g.N.Exact.bound c.args.dict c.args.prices.now c.args.bounds.now)
    c.from_residual-in_err-put_basics.result (posed_plain g.N.Exact.value g.N.Exact.bound c.args.dict c.args.prices.now c.args.bounds.now) (returns-in_err-put_basics-clause-fixed g c)
