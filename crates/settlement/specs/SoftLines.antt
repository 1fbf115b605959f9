-- Lines whose limits give way.
use Rattle.std.specs.Prelude.{◌||◌, Bool, true, false}
use Rattle.market_model.specs.declared.participants.Line.{Line}
use Rattle.market_model.specs.LimitRows.{gives_way}

-- one of its limits gives way, in the base or after outages
abbrev pub has_soft_limit : Line → Bool
has_soft_limit line = gives_way false line || gives_way true line
