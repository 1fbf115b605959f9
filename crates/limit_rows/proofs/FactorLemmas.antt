-- Where the lines of outages stand.
use Rattle.std.specs.Prelude.{ℕ, ◌<◌, ◌≤◌, length}
use Rattle.std.proofs.Common.{get_or}
use Rattle.market_model.specs.declared.participants.Parts.{Parts}
use Rattle.market_model.specs.Dispatch.{line_at}
use Rattle.market_model.specs.LimitRows.{place_of_line}
use Rattle.market_model.specs.Market.{IsMarket}
use Rattle.market_model.proofs.LostLemmas.{outage_line}

-- ---- the line that an outage loses
pub outage_stands : (m : Parts) → IsMarket m → (i : ℕ) (d : ℕ) → i < length m.outages
    → (place_of_line m (get_or m.outages i d) < length m.lines) × (1 ≤ (line_at m (place_of_line m (get_or m.outages i d))).row)
outage_stands m market i d h = let at = outage_line m market i d h in (at.inside, (market.lines (place_of_line m (get_or m.outages i d)) _ at.inside).row)
