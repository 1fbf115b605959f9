-- An exchange in the dictionary of a market.
use Rattle.std.specs.Prelude.{◌≡◌, ℕ, List}
use Rattle.std.proofs.Common.{ap, ◌∙◌}
use Rattle.linear_dict.specs.Dictionaries.{Dictionary, IsDictionary, pivoted}
use Rattle.market_model.specs.declared.participants.Parts.{Parts}
use Rattle.market_dict.specs.Holding.{HoldsMarket}
use Rattle.market_dict.specs.declared.taking.Taking.{Taking}
use Rattle.market_dict.proofs.HoldingLaws.{holds_same}

-- it holds the market over the same limits and rooms
pub holds_exchanged : (m : Parts) (ts : List Taking) (d e : Dictionary) (r c : ℕ) → HoldsMarket m ts d → e ≡ pivoted d r c → IsDictionary e → HoldsMarket m ts e
unfolding pivoted
holds_exchanged m ts d e r c holds is sound =
    holds_same m ts d e holds (ap (λ (x : Dictionary). x.spent) is ∙ holds.live) sound (ap (λ (x : Dictionary). x.columns) is) (ap (λ (x : Dictionary). x.rows) is) (ap (λ (x : Dictionary). x.coefficients) is) (ap (λ (x : Dictionary). x.names) is)
