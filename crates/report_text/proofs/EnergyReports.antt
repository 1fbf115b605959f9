-- Reports of markets of energy alone.
use Rattle.std.specs.Prelude.{◌≡◌, Bool, true, false, ℕ, ℤ, List, [], ◌++◌, codes, refl}
use Rattle.std.specs.List.{flat_map}
use Rattle.std.proofs.Common.{ap}
use Rattle.std.proofs.lemmas.List.{append-nil}
use Rattle.fraction_theory.specs.Fraction.{Fraction}
use Rattle.market_data.specs.Scales.{price_places}
use Rattle.market_model.specs.declared.answered.Answer.{Answer}
use Rattle.market_model.specs.declared.answered.Duals.{Duals}
use Rattle.market_model.specs.declared.answered.Farkas.{Farkas}
use Rattle.market_model.specs.declared.answered.Outcome.TheVariants as outcome
use Rattle.market_model.specs.declared.participants.Parts.{Parts}
use Rattle.market_model.specs.Optimality.{ProperDuals}
use Rattle.market_model.specs.Reserves.{no_reserve}
use Rattle.market_model.proofs.EnergyAlone.{duals_alone, no_places, not_listed}
use Rattle.report_text.specs.Reports.{head_text, surplus_text, need_text, lines_of_buses, lines_of_blocks, lines_of_limits, lines_of_rooms, lines_of_units, lines_of_offers, offer_line_at, lines_of_loads, cleared_text, limit_text, bound_text, plain_energy_text, plain_reserve_text, infeasible_text}
use Rattle.report_text.specs.ReportLaws.{LawOfEnergyAlone, energy_lines, plain_lines}

-- texts without the parts that are empty
cleared_less : (h n b k r d u o l s : List ℕ) → n ≡ [] → d ≡ [] → o ≡ [] → h ++ n ++ b ++ k ++ r ++ d ++ u ++ o ++ l ++ s ≡ h ++ b ++ k ++ r ++ u ++ l ++ s
cleared_less h n b k r d u o l s e f g = Prim.rw (e, f, g) Prim.simp append-nil

infeasible_less : (a b c p l d : List ℕ) → p ≡ [] → d ≡ [] → a ++ b ++ c ++ p ++ l ++ d ≡ a ++ b ++ c ++ l
infeasible_less a b c p l d e f = Prim.rw (e, f) Prim.simp append-nil

no_need : (listed : Bool) (need : ℤ) (price : Fraction) → listed ≡ false → need_text listed need price ≡ []
unfolding need_text
no_need true need price e = absurd Prim.cc
no_need false need price e = refl

no_price : (listed : Bool) (price : Fraction) → listed ≡ false → plain_reserve_text listed price ≡ []
unfolding plain_reserve_text
no_price true price e = absurd Prim.cc
no_price false price e = refl

module _ (m : Parts) (alone : m.reserve ≡ no_reserve) where
  no_rooms : (k : ℕ) (d : Duals Fraction) → ProperDuals m d → lines_of_rooms k d.rooms ≡ []
  no_rooms k d proper = ap (λ (e : Duals Fraction). lines_of_rooms k e.rooms) (duals_alone m alone d proper)

  no_offer_lines : (a : Answer Fraction) → lines_of_offers m a ≡ []
  no_offer_lines a = ap (λ (ns : List ℕ). flat_map (offer_line_at m a) ns) (no_places m alone)

  cleared_alone : (a : Answer Fraction) → ProperDuals m a.duals → cleared_text m a ≡ energy_lines m a
  unfolding cleared_text
  cleared_alone a proper =
      cleared_less (head_text a.welfare a.duals.energy) (need_text m.reserve.listed m.reserve.need a.duals.reserve) (lines_of_buses m a) (lines_of_blocks m a) (lines_of_limits a) (lines_of_rooms price_places a.duals.rooms) (lines_of_units m a) (lines_of_offers m a) (lines_of_loads m a) (surplus_text a.money.surplus)
      (no_need m.reserve.listed m.reserve.need a.duals.reserve (not_listed m alone)) (no_rooms price_places a.duals proper) (no_offer_lines a)

  infeasible_alone : (f : Farkas Fraction) → ProperDuals m f.duals → infeasible_text m.reserve.listed f ≡ plain_lines f
  unfolding infeasible_text
  infeasible_alone f proper =
      infeasible_less (codes "infeasible\n") (bound_text f.bound) (plain_energy_text f.duals.energy) (plain_reserve_text m.reserve.listed f.duals.reserve) (flat_map limit_text f.duals.limits) (lines_of_rooms 0 f.duals.rooms)
      (no_price m.reserve.listed f.duals.reserve (not_listed m alone)) (no_rooms 0 f.duals proper)

pub law_of_energy_alone : LawOfEnergyAlone
law_of_energy_alone m (outcome.Cleared a) alone right = cleared_alone m alone a right.proper
law_of_energy_alone m (outcome.Infeasible f) alone right = infeasible_alone m alone f right.proper
law_of_energy_alone m (outcome.Range p) alone right = tt
