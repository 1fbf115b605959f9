-- A session as callers see it: its market, and what its clearer keeps.
use Rattle.market_model.specs.declared.participants.Parts.{Parts}
use Rattle.clear_loop.specs.Keeping.{Kept}

pub record SessionState : Type 0 where
  pub market : Parts
  pub kept : Kept
