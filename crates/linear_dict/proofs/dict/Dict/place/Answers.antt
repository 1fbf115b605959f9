use Rattle.std.proofs.Common.{ℕ, subst}
use Rattle.linear_dict.specs.Places.{StandsAt}
use Rattle.linear_dict.proofs.dict.Dict.place.Goals as goal

pub returns : goal.returns
returns g c = subst (λ (w : ℕ). StandsAt c.args.self.now.basics c.args.self.now.others w c.place_at.result) c.rank_of.ensures.name c.place_at.ensures
