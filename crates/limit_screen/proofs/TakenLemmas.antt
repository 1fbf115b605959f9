-- Whether a row is taken, and what its flow may be then.
use Rattle.std.specs.Prelude.{◌≡◌, ◌↔◌, pos, Bool, true, false, List, Contains, IsTrue, MatchBool, refl}
use Rattle.std.specs.List.{list_any}
use Rattle.std.proofs.Common.{sym, subst, ◌∙◌}
use Rattle.std.proofs.lemmas.Bool.{eq-eqb}
use Rattle.std.proofs.lemmas.List.Folds.{Any-from_list_any, list_any_at}
use Rattle.fraction_theory.specs.Fraction.{Fraction, whole}
use Rattle.fraction_theory.specs.Order.{◌<ℚ◌, ◌≤ℚ◌}
use Rattle.fraction_theory.proofs.ListSums.{Contains-filter, Contains-from_filter}
use Rattle.market_model.specs.declared.answered.RowId.{RowId}
use Rattle.market_model.specs.declared.participants.Parts.{Parts}
use Rattle.market_model.specs.declared.limits.Row.{Row}
use Rattle.market_model.specs.LimitRows.{most_excess, row_id, rows}
use Rattle.market_model.specs.Optimality.{same_id}
use Rattle.market_model.specs.Overrun.{IsBeyond, Keeps, overrun}
use Rattle.market_model.proofs.ChangeLemmas.{same_default}
use Rattle.limit_rows.specs.Naming.{has_name}
use Rattle.limit_rows.proofs.PlaceLemmas.{same_name}
use Rattle.limit_screen.specs.Screening.{rows_named}
use Rattle.limit_screen.proofs.ScreenLemmas.{beyond_limit, keeps_most}

-- a row of the market is among those of some names where its name is among these
own_name : (a : RowId) → same_id a a ≡ true
own_name a = Prim.rw (eq-eqb a.branch a.branch refl, eq-eqb a.outage a.outage refl, eq-eqb a.unit a.unit refl) refl

pub named_iff : (m : Parts) (names : List RowId) (r : Row) (b : Bool) → Contains (rows m) r → (IsTrue b ↔ Contains names (row_id m r)) → (IsTrue b ↔ Contains (rows_named m names) r)
named_iff m names r b c is =
    (λ t. Contains-filter (λ s. list_any (λ name. has_name m name s) names) (rows m) r c (to (is.0 t)), λ k. is.1 (from (Contains-from_filter (λ s. list_any (λ name. has_name m name s) names) (rows m) r k).1))
  where
    to : Contains names (row_id m r) → list_any (λ name. has_name m name r) names ≡ true
    to (k, lt, e) = list_any_at (λ name. has_name m name r) names k (row_id m r) lt (subst (λ (n : RowId). same_id (row_id m r) n ≡ true) (sym e) (own_name (row_id m r)))

    from : list_any (λ name. has_name m name r) names ≡ true → Contains names (row_id m r)
    from t =
        let found = Any-from_list_any (λ name. has_name m name r) names t in
        (found.0, found.2, same_default names found.0 (row_id m r) found.1 found.2 ∙ found.3 ∙ sym (same_name (row_id m r) found.1 found.4))

-- a flow that passes its limit by no more than the excess keeps what it may be where its row is taken, and not where it is not
pub keeps_iff : (m : Parts) (taken : List Row) (r : Row) (f : Fraction) (b : Bool) → (IsTrue b ↔ Contains taken r) → whole (pos 0) <ℚ overrun m r f → overrun m r f ≤ℚ most_excess m r → MatchBool b (Keeps m taken r f) (IsBeyond m taken r f)
keeps_iff m taken r f true is above less = keeps_most m taken r f (is.0 refl) less
keeps_iff m taken r f false is above less = beyond_limit m taken r f (λ c. let wrong : false ≡ true = is.1 c in absurd Prim.cc) above
