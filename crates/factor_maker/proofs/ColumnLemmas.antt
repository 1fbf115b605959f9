-- Columns one by one, and exact columns as differences.
use Rattle.std.proofs.Common.{◌≡◌, ◌∙◌, ◌+◌, ◌++◌, ◌∷◌, [], ℕ, ℤ, List, length, sym, ap, subst, arith}
use Rattle.std.proofs.Math.Logic.{⊎_elim}
use Rattle.std.proofs.lemmas.List.{length-append}
use Rattle.std.specs.Prelude.{Result, Ok, Err, IfErr}
use Rattle.fraction_theory.specs.Fraction.{Fraction}
use Rattle.exact_fraction.specs.declared.Passed.{Passed}
use Rattle.market_data.specs.declared.scales.FactorPlaces.{FactorPlaces}
use Rattle.network_theory.specs.Networks.{Network}
use Rattle.network_theory.specs.Carrying.{IsCarried}
use Rattle.exact_flows.specs.FlowSystems.{IsFlowPassed, IsFlowStop}
use Rattle.exact_flows.specs.declared.stop.FlowStop.{FlowStop}
use Rattle.exact_flows.specs.declared.stop.FlowStop.TheVariants as flow
use Rattle.factor_maker.specs.Columns.{AreCarried, AreColumn, AreColumns}
use Rattle.factor_maker.specs.ExactLists.{AreDifferences, IsRefusedDifference}
use Rattle.factor_maker.specs.Stops.{IsDifference, OnPassed, made_stop}
use Rattle.factor_maker.specs.declared.stops.MakeStop.{MakeStop}
use Rattle.factor_maker.specs.declared.stops.MakeStop.TheVariants as why
use Rattle.factor_maker.proofs.Lists.{at_place, get_contains, get_last, place_of, zip-at, zip-by_places, zip-length}
use Rattle.factor_maker.proofs.Scaling.{carried_between}

module _ (n : Network) (reference : ℕ) (places : FactorPlaces) where
  pub columns_none : AreColumns n reference places []
  columns_none = record { each = λ i lt. absurd (omega (arith, lt)) }

  pub columns_more : (columns new : List (List ℤ)) (column : List ℤ) (bus : ℕ) → length columns ≡ bus → AreColumns n reference places columns → AreColumn n reference bus reference places column
      → new ≡ columns ++ column ∷ [] → (length new ≡ bus + 1) × AreColumns n reference places new
  columns_more columns new column bus count are here is = (
    ap length is ∙ length-append columns (column ∷ []) ∙ (omega (arith, count)),
    subst (AreColumns n reference places) (sym is) (record {
      each = λ i lt.
          let y = place_of (columns ++ column ∷ []) i lt in
          let at = (at_place (columns ++ column ∷ []) i y.0 [] y.1).1 in
          ⊎_elim
          (λ h. let old = at_place columns i y.0 [] h in subst (λ (c : List ℤ). AreColumn n reference i reference places c) (old.1 ∙ sym at) (are.each i old.0))
          (λ h. subst (λ (c : List ℤ). AreColumn n reference i reference places c) (sym h.1 ∙ sym at) (subst (λ (k : ℕ). AreColumn n reference k reference places column) (sym (h.0 ∙ count)) here))
          (get_last columns column i y.0 y.1);
    }),
  )

module _ {N : Type 0} (value : N → Fraction) (n : Network) (reference source sink : ℕ) (left right : List N)
    (from_source : AreCarried value n reference source reference left) (from_sink : AreCarried value n reference sink reference right) where
  pub differences_carried : (list : List N) → AreDifferences value left right list → AreCarried value n reference source sink list
  differences_carried list are = zip-by_places (λ b flow. IsCarried n reference source sink b (value flow)) n.branches list (are.count ∙ zip-length (λ b flow. IsCarried n reference source reference b (value flow)) n.branches left from_source)
      (λ k b d p q.
      let long = zip-length (λ b flow. IsCarried n reference source reference b (value flow)) n.branches left from_source in
      let wide = zip-length (λ b flow. IsCarried n reference sink reference b (value flow)) n.branches right from_sink in
      let within = (at_place n.branches k b b p).0 in
      let x = place_of left k (omega (arith, long, within)) in
      let y = place_of right k (omega (arith, wide, within)) in
      let here = zip-at (λ b flow. IsCarried n reference source reference b (value flow)) n.branches left from_source k b x.0 p x.1 in
      let there = zip-at (λ b flow. IsCarried n reference sink reference b (value flow)) n.branches right from_sink k b y.0 p y.1 in
      subst (λ (f : Fraction). IsCarried n reference source sink b f) (sym (are.each k x.0 y.0 d x.1 y.1 q)) (carried_between n reference source sink b (value x.0) (value y.0) here there))

  pub refused_difference : (bound : ℕ) (e : Passed N) → IsRefusedDifference value bound left right e → IsDifference value bound n reference source sink e
  refused_difference bound e is =
      let long = zip-length (λ b flow. IsCarried n reference source reference b (value flow)) n.branches left from_source in
      let within = (at_place left is.k e.left e.left is.left_is).0 in
      let b = place_of n.branches is.k (omega (arith, long, within)) in
      record {
        branch = b.0;
        there = get_contains n.branches is.k b.0 b.1;
        op_is = is.op_is;
        from_source = zip-at (λ b flow. IsCarried n reference source reference b (value flow)) n.branches left from_source is.k b.0 e.left b.1 is.left_is;
        from_sink = zip-at (λ b flow. IsCarried n reference sink reference b (value flow)) n.branches right from_sink is.k b.0 e.right b.1 is.right_is;
        passes = is.passes;
      }

-- ---- stops
pub on_flow : {N : Type 0} (value : N → Fraction) (bound : ℕ) (n : Network) (reference : ℕ) (P : Passed N → Type 0) → ((e : Passed N) → IsFlowPassed value bound n reference e → P e)
    → (stop : FlowStop N) → IsFlowStop value bound n reference stop → OnPassed (made_stop stop) P
on_flow value bound n reference P f (flow.Passed e) h = f e h
on_flow value bound n reference P f flow.Memory h = tt

pub on_weaker : {N : Type 0} (P Q : Passed N → Type 0) → ((e : Passed N) → P e → Q e) → (stop : MakeStop N) → OnPassed stop P → OnPassed stop Q
on_weaker P Q f (why.TooMany count) h = h
on_weaker P Q f (why.NotPositive row) h = h
on_weaker P Q f (why.Passed e) h = f e h
on_weaker P Q f why.Memory h = tt

pub if_weaker : {A N : Type 0} (P Q : Passed N → Type 0) → ((e : Passed N) → P e → Q e) → (result : Result A (MakeStop N)) → IfErr result (λ s. OnPassed s P) → IfErr result (λ s. OnPassed s Q)
if_weaker P Q f (Ok x) h = h
if_weaker P Q f (Err stop) h = on_weaker P Q f stop h
