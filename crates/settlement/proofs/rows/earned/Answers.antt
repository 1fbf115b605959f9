use Rattle.std.proofs.Common.{rules, Err, ◌≡◌, ◌∙◌, ap, inl, inr, refl}
use Rattle.std.proofs.lemmas.Result.{MatchResult-weaker}
use Rattle.fraction_theory.specs.Fraction.{◌*ℚ◌}
use Rattle.fraction_theory.specs.declared.Sign.TheVariants.{Zero}
use Rattle.fraction_theory.proofs.SignLaws.{sign_of_is}
use Rattle.exact_fraction.specs.declared.Op.TheVariants.{Plus, Minus, Times}
use Rattle.market_model.specs.Valued.{dual_at, passed_at}
use Rattle.market_model.proofs.SumSteps.{product_too_large, refusal}
use Rattle.market_model.proofs.OneSidedDuals.{not_zero_side}
use Rattle.settlement.proofs.RowLemmas.{less_refused, lower_earned, lower_refused, more_refused, upper_earned, upper_refused}
use Rattle.settlement.proofs.rows.earned.Goals as goal

pub returns-in_ok-room-in-Zero-clause-rent : goal.returns-in_ok-room-in-Zero-clause-rent
returns-in_ok-room-in-Zero-clause-rent g c =
    let value = g.N.Exact.value in
    let e = dual_at value c.args.dual.now in
    MatchResult-weaker c.times.result c.times.ensures
    (λ r is.
    is.exact ∙ ap (λ t. e.up *ℚ t) c.in_ok-room-in-Zero.ensures.exact
    ∙ upper_earned e (value c.args.priced) (value c.args.offset) (sign_of_is e.down Zero c.in-Zero.ensures))
    (λ _ _. tt)

pub returns-in_ok-room-in-Zero-clause-stops : goal.returns-in_ok-room-in-Zero-clause-stops
returns-in_ok-room-in-Zero-clause-stops g c =
    let value = g.N.Exact.value in
    let e = dual_at value c.args.dual.now in
    MatchResult-weaker c.times.result c.times.ensures (λ _ _. tt)
    (λ p is.
    inr (inr (upper_refused e (value c.args.priced) (value c.args.offset) g.N.Exact.bound (passed_at value p)
    (refusal value g.N.Exact.bound Times c.args.dual.now.up c.in_ok-room-in-Zero.room _ _ p refl c.in_ok-room-in-Zero.ensures.exact
    (product_too_large value g.N.Exact.bound c.args.dual.now.up c.in_ok-room-in-Zero.room p is)))))

pub returns-in_err-room-in-Zero-clause-stops : goal.returns-in_err-room-in-Zero-clause-stops
returns-in_err-room-in-Zero-clause-stops g c =
    let value = g.N.Exact.value in
    let given : c.from_residual.result ≡ Err c.in_err-room-in-Zero.field-0.0 = search rules in
    rw given
    (inl (less_refused (dual_at value c.args.dual.now) (value c.args.priced) (value c.args.offset) g.N.Exact.bound (passed_at value c.in_err-room-in-Zero.field-0.0)
    (refusal value g.N.Exact.bound Minus c.args.priced c.args.offset _ _ c.in_err-room-in-Zero.field-0.0 refl refl c.in_err-room-in-Zero.ensures)))

pub returns-in_err-room-in-Below-clause-stops : goal.returns-in_err-room-in-Below-clause-stops
returns-in_err-room-in-Below-clause-stops g c =
    let value = g.N.Exact.value in
    let given : c.from_residual-in_err-room-in-Below.result ≡ Err c.in_err-room-in-Below.field-0.0 = search rules in
    rw given
    (inr (inl (more_refused (dual_at value c.args.dual.now) (value c.args.priced) (value c.args.offset) g.N.Exact.bound (passed_at value c.in_err-room-in-Below.field-0.0)
    (refusal value g.N.Exact.bound Plus c.args.priced c.args.offset _ _ c.in_err-room-in-Below.field-0.0 refl refl c.in_err-room-in-Below.ensures))))

pub returns-in_ok-room-in-Below : goal.returns-in_ok-room-in-Below
returns-in_ok-room-in-Below g c =
    let value = g.N.Exact.value in
    let e = dual_at value c.args.dual.now in
    let none = not_zero_side e c.sign.result c.requires c.sign.ensures c.in-Below.is in
    record {
      rent = MatchResult-weaker c.times-in-Below.result c.times-in-Below.ensures
          (λ r is.
          is.exact ∙ ap (λ t. e.down *ℚ t) c.in_ok-room-in-Below.ensures.exact
          ∙ lower_earned e (value c.args.priced) (value c.args.offset) none)
          (λ _ _. tt);
      stops = MatchResult-weaker c.times-in-Below.result c.times-in-Below.ensures (λ _ _. tt)
          (λ p is.
          inr (inr (lower_refused e (value c.args.priced) (value c.args.offset) g.N.Exact.bound (passed_at value p) none
          (refusal value g.N.Exact.bound Times c.args.dual.now.down c.in_ok-room-in-Below.room _ _ p refl c.in_ok-room-in-Below.ensures.exact
          (product_too_large value g.N.Exact.bound c.args.dual.now.down c.in_ok-room-in-Below.room p is)))));
    }
