-- A look at rows, with one row more.
use Rattle.std.specs.Prelude.{◌≡◌, ℤ, negsuc, Bool, List, [], ◌∷◌, ◌++◌, Option, Some, None, filter, refl}
use Rattle.std.proofs.Common.{ap, sym, subst, ◌∙◌}
use Rattle.std.proofs.lemmas.List.Elements.{All-pop}
use Rattle.fraction_theory.specs.Fraction.{Fraction, whole}
use Rattle.fraction_theory.specs.Order.{◌<ℚ◌, ◌≤ℚ◌}
use Rattle.fraction_theory.specs.Signs.{abs_ℚ}
use Rattle.fraction_theory.proofs.OrderLaws.{<ℚ-≤ℚ, whole-≤ℚ, ≤ℚ_trans}
use Rattle.market_model.specs.declared.limits.Row.{Row}
use Rattle.market_model.specs.declared.participants.Parts.{Parts}
use Rattle.market_model.specs.LimitRows.{Carried, flow_by, limit}
use Rattle.market_model.specs.Market.{IsMarket}
use Rattle.market_model.specs.Overrun.{IsBeyond, Keeps, overrun}
use Rattle.limit_screen.specs.declared.screening.RowOverrun.{RowOverrun}
use Rattle.limit_screen.specs.Bounds.{IsToldMost}
use Rattle.limit_screen.specs.Reaching.{reaches}
use Rattle.limit_screen.specs.Screening.{IsWorstOf}
use Rattle.limit_screen.proofs.ReachLemmas.{filter_past, filter_with, is_reached, not_reached, one_less}
use Rattle.limit_screen.proofs.ScreenLemmas.{below_nil, keeps_limit, kept, no_worse}

-- where so much is carried, the limit of a row is reached
abbrev pub row_reaches : Parts → Carried → Row → Bool
row_reaches m c r = reaches (flow_by m c r) (limit m r)

-- of some rows the worst is known, and where there is none those whose limits are reached
pub record AreLooked {N : Type 0} (value : N → Fraction) (m : Parts) (taken : List Row) (c : Carried) (rs : List Row) (worst : Option (RowOverrun N)) (reached : List Row) : Type 0 where
  pub passed : IsWorstOf value m taken (flow_by m c) rs worst
  pub told : worst ≡ None → reached ≡ filter (row_reaches m c) rs

module _ {N : Type 0} (value : N → Fraction) (m : Parts) (taken : List Row) (c : Carried) (rs : List Row) (r : Row) (reached : List Row) where
  -- below its limit
  pub looked_below : (worst : Option (RowOverrun N)) → Keeps m taken r (flow_by m c r) → abs_ℚ (flow_by m c r) <ℚ limit m r
      → AreLooked value m taken c rs worst reached → AreLooked value m taken c (rs ++ r ∷ []) worst reached
  looked_below worst keeps below so = record {
    passed = kept value m taken (flow_by m c) rs r worst so.passed keeps;
    told = λ none. so.told none ∙ sym (filter_past (row_reaches m c) rs r (not_reached (flow_by m c r) (limit m r) below));
  }

  -- passed over
  pub looked_over : (worst : Option (RowOverrun N)) (most : ℤ) → IsMarket m → IsToldMost worst most → overrun m r (flow_by m c r) ≤ℚ whole most
      → AreLooked value m taken c rs worst reached → AreLooked value m taken c (rs ++ r ∷ []) worst reached
  looked_over None most market is less so =
      let f = flow_by m c r in
      let below = one_less f (limit m r) (≤ℚ_trans (overrun m r f) (whole most) (whole (negsuc 0)) less (whole-≤ℚ most (negsuc 0) is)) in
      looked_below None (keeps_limit m taken r f market (below_nil (abs_ℚ f) (limit m r) (<ℚ-≤ℚ (abs_ℚ f) (limit m r) below))) below so
  looked_over (Some b) most market is less so = record {
    passed = no_worse value m taken (flow_by m c) rs r b so.passed (subst (λ n. overrun m r (flow_by m c r) ≤ℚ whole n) is less);
    told = λ none. absurd Prim.cc;
  }

  -- at its limit, or beyond it where it may be
  pub looked_reached : (worst : Option (RowOverrun N)) (more : List Row) → Keeps m taken r (flow_by m c r) → limit m r ≤ℚ abs_ℚ (flow_by m c r) → more ≡ reached ++ r ∷ []
      → AreLooked value m taken c rs worst reached → AreLooked value m taken c (rs ++ r ∷ []) worst more
  looked_reached worst more keeps at pushed so = record {
    passed = kept value m taken (flow_by m c) rs r worst so.passed keeps;
    told = λ none. pushed ∙ ap (λ (ys : List Row). ys ++ r ∷ []) (so.told none) ∙ sym (filter_with (row_reaches m c) rs r (is_reached (flow_by m c r) (limit m r) at));
  }

  -- beyond what it may be
  pub looked_beyond : (worst : Option (RowOverrun N)) → IsBeyond m taken r (flow_by m c r) → IsWorstOf value m taken (flow_by m c) (rs ++ r ∷ []) worst
      → AreLooked value m taken c (rs ++ r ∷ []) worst reached
  looked_beyond None beyond all = absurd (beyond (All-pop (λ s. Keeps m taken s (flow_by m c s)) (rs ++ r ∷ []) rs (Some r) refl all).1)
  looked_beyond (Some b) beyond is = record { passed = is; told = λ none. absurd Prim.cc }
