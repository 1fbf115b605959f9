-- The line that stands at the place of a row.
use Rattle.std.specs.Prelude.{◌≡◌, ℕ, ℤ, pos, ◌≤ℤ◌, List, Option, Some, None, IfSome, unwrap_or, refl}
use Rattle.std.specs.List.{slice_get}
use Rattle.std.proofs.Common.{arith, ap, sym, subst, ◌∙◌}
use Rattle.std.proofs.lemmas.Int.{ints}
use Rattle.std.proofs.lemmas.Option.{slice_get_within, get_or_from_slice_get}
use Rattle.fraction_theory.specs.Fraction.{whole}
use Rattle.market_model.specs.declared.limits.Cause.{Cause}
use Rattle.market_model.specs.declared.limits.Cause.TheVariants.{Base, Branch, UnitOutage}
use Rattle.market_model.specs.declared.participants.Line.{Line}
use Rattle.market_model.specs.declared.participants.Parts.{Parts}
use Rattle.market_model.specs.Dispatch.{line_at}
use Rattle.market_model.specs.LimitRows.{limit_under, mw_or_zero, stated}
use Rattle.market_model.specs.Lines.{hard_line}
use Rattle.market_model.specs.Market.{IsLine, IsMarket}

module _ (m : Parts) (lines : List Line) (l : ℕ) (line : Line) (listed : lines ≡ m.lines) (is : slice_get lines l ≡ Some line) where
  there : slice_get m.lines l ≡ Some line
  there = subst (λ (ls : List Line). slice_get ls l ≡ Some line) listed is

  -- it is the market's
  pub line_here : line_at m l ≡ line
  line_here = get_or_from_slice_get m.lines l line (hard_line 0 None None (pos 0)) there

  pub line_is : IsMarket m → IsLine line
  line_is market = subst IsLine (get_or_from_slice_get m.lines l line line there) (market.lines l line (slice_get_within m.lines l line there))

  -- the limit that it states, or 0
  pub limit_here : (cause : Cause) → whole (unwrap_or (stated line cause) (pos 0)) ≡ limit_under m l cause
  limit_here cause = of (stated line cause) ∙ ap (λ (k : Line). mw_or_zero (stated k cause)) (sym line_here)
    where
      of : (mw : Option ℤ) → whole (unwrap_or mw (pos 0)) ≡ mw_or_zero mw
      of None = refl
      of (Some mw) = refl

-- a stated limit is not below 0
not_below : (mw : Option ℤ) → IfSome mw (λ n. pos 0 ≤ℤ n) → pos 0 ≤ℤ unwrap_or mw (pos 0)
not_below None h = Prim.omega (arith, ints)
not_below (Some n) h = h

pub stated_least : (line : Line) → IsLine line → (cause : Cause) → pos 0 ≤ℤ unwrap_or (stated line cause) (pos 0)
stated_least line is Base = not_below line.base is.base
stated_least line is (Branch lost) = not_below line.post is.post
stated_least line is (UnitOutage k) = not_below line.post is.post
