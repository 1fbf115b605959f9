-- The penalties of lines and of rows.
use Rattle.std.specs.Prelude.{◌≡◌, ◌⊎◌, ℕ, ◌<◌, ◌≤◌, ℤ, pos, ◌≤ℤ◌, Bool, true, false, length, slice_index_or, Option, IfSome, None, refl}
use Rattle.std.proofs.Common.{arith, sym, ap, ◌∙◌, subst, inl, inr}
use Rattle.std.proofs.lemmas.Bool.{cases_lt}
use Rattle.std.proofs.lemmas.List.{get_or_past}
use Rattle.market_data.specs.Participants.{IsDatum}
use Rattle.market_model.specs.declared.limits.Row.{Row}
use Rattle.market_model.specs.declared.participants.Line.{Line}
use Rattle.market_model.specs.declared.participants.Parts.{Parts}
use Rattle.market_model.specs.Dispatch.{line_at}
use Rattle.market_model.specs.LimitRows.{most_excess_of, is_outage, penalty_of}
use Rattle.market_model.specs.Lines.{hard_line, IsPenalty}
use Rattle.market_model.specs.Market.{IsLine, IsMarket}

pub no_cost : IsPenalty (pos 0) (pos 0)
no_cost = record { costs = Prim.grind arith; exceeds = Prim.grind arith; priced = λ above. Prim.grind (arith, above) }

pub hard_is_line : (row : ℕ) (base post : Option ℤ) (offset : ℤ) → 1 ≤ row → IfSome base (λ mw. pos 0 ≤ℤ mw) → IfSome post (λ mw. pos 0 ≤ℤ mw) → IsDatum offset → IsLine (hard_line row base post offset)
hard_is_line row base post offset from_one of_base of_post datum = record {
  row = from_one;
  base = of_base;
  post = of_post;
  base_penalty = no_cost;
  post_penalty = no_cost;
  offset = datum;
}

-- what holds of each line, and of one that is not there, holds of the line of a row
pub of_line : (m : Parts) (P : Line → Type 0) → ((l : ℕ) (d : Line) → l < length m.lines → P (slice_index_or m.lines l d)) → P (hard_line 0 None None (pos 0)) → (l : ℕ) → P (line_at m l)
of_line m P each past l = by (cases_lt l (length m.lines))
  where
    by : (l < length m.lines) ⊎ (length m.lines ≤ l) → P (line_at m l)
    by (inl lt) = each l _ lt
    by (inr ge) = subst P (sym (get_or_past m.lines l _ ge)) past

-- a row's penalty and excess are such ones
pub penalties : (m : Parts) → IsMarket m → (r : Row) → IsPenalty (penalty_of (is_outage r.cause) (line_at m r.line)) (most_excess_of (is_outage r.cause) (line_at m r.line))
penalties m market r = by (is_outage r.cause)
  where
    by : (post : Bool) → IsPenalty (penalty_of post (line_at m r.line)) (most_excess_of post (line_at m r.line))
    by true = of_line m (λ l. IsPenalty l.post_price l.post_excess) (λ l d lt. (market.lines l d lt).post_penalty) no_cost r.line
    by false = of_line m (λ l. IsPenalty l.base_price l.base_excess) (λ l d lt. (market.lines l d lt).base_penalty) no_cost r.line
