use Rattle.std.specs.Prelude.{Bool, true, false}
use Rattle.std.proofs.Common.{◌≡◌, ◌∙◌, ◌++◌, ◌∷◌, [], List, Err, ap, ap₂, sym, subst₂}
use Rattle.std.proofs.lemmas.Result.{err_from_is_err_and}
use Rattle.fraction_theory.specs.Fraction.{Fraction}
use Rattle.simplex_core.specs.declared.bounds.Bounds.{Bounds}
use Rattle.market_model.specs.declared.participants.Reserve.{Reserve}
use Rattle.market_model.specs.declared.stops.Stop.TheVariants.{Passed as StoppedBy}
use Rattle.market_model.specs.SumTables.{balance_of_all, flow_in_balance}
use Rattle.market_system.specs.declared.variables.Variable.{Variable}
use Rattle.market_system.specs.declared.variables.Variable.TheVariants.{Balance}
use Rattle.market_system.proofs.VariableLaws.{needs}
use Rattle.market_dict.specs.PricesAndBounds.{AreBounds}
use Rattle.market_dict.specs.Refusals.{of_sum}
use Rattle.market_dict.proofs.posing.first_row_bounds.Goals as goal
use Rattle.market_dict.proofs.posing.first_row_bounds.Goals.{then-reserve+in_ok-need_bounds+in_ok-push-2, else-reserve}

pub returns-in_err-residual_demand-clause-stops : goal.returns-in_err-residual_demand-clause-stops
returns-in_err-residual_demand-clause-stops g c =
    let p = err_from_is_err_and c.from_residual.result c.from_residual.ensures.1 in
    let given : c.from_residual.result ≡ Err (StoppedBy c.in_err-residual_demand.field-0.0) = p.1 ∙ ap Err p.2 in
    rw given (of_sum (_, flow_in_balance _ balance_of_all, c.in_err-residual_demand.ensures.stops))

pub returns-clause-bounds : goal.returns-clause-bounds
returns-clause-bounds g c =
    let m = c.args.market.now in
    let value = g.N.Exact.value in
    let first : Bounds g.row.N.Denot = record { low = c.in_ok-residual_demand.residual_demand; high = c.in_ok-residual_demand.residual_demand } in
    let demand = c.in_ok-residual_demand.ensures.residual_demand in
    let pushed = c.in_ok-push.ensures ∙ ap (λ (bs : List (Bounds g.row.N.Denot)). bs ++ first ∷ []) c.new-bounds.ensures in
    let reserve = ap (λ (r : Reserve). r.listed) c.reserve.ensures.reserve in
    elim c.if-reserve.branch [
      | then-reserve+in_ok-need_bounds+in_ok-push-2 w ↦
          let listed : m.reserve.listed ≡ true = sym reserve ∙ w.if-reserve.true in
          let need = w.in_ok-need_bounds.ensures.bounds in
          subst₂ (λ (vs : List Variable) (bs : List (Bounds g.row.N.Denot)). AreBounds value m vs bs) (sym (ap (λ (b : Bool). Balance ∷ needs b) listed))
          (sym (w.bounds-is ∙ w.in_ok-push-2.ensures ∙ ap (λ (bs : List (Bounds g.row.N.Denot)). bs ++ w.in_ok-need_bounds.field-0 ∷ []) pushed))
          (record { lows = ap₂ (λ (x : Fraction) (xs : List Fraction). x ∷ xs) demand need.lows; highs = ap₂ (λ (x : Fraction) (xs : List Fraction). x ∷ xs) demand need.highs })
      | else-reserve w ↦
          let unlisted : m.reserve.listed ≡ false = sym reserve ∙ w.if-reserve.false in
          subst₂ (λ (vs : List Variable) (bs : List (Bounds g.row.N.Denot)). AreBounds value m vs bs) (sym (ap (λ (b : Bool). Balance ∷ needs b) unlisted)) (sym (w.bounds-is ∙ pushed))
          (record { lows = ap (λ (x : Fraction). x ∷ []) demand; highs = ap (λ (x : Fraction). x ∷ []) demand })
    ]
