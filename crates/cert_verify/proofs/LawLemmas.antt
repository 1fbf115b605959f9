-- What the verdict means, with what follows by the laws of the market.
use Rattle.std.specs.Prelude.{◌≡◌, ◌≢◌, ◌<◌, ◌∷◌, ℕ, Bool, true, false, List, Option, None, Some, length, refl}
use Rattle.std.proofs.Common.{ap, sym, ◌∙◌, arith, get_or, subst, subst₂}
use Rattle.std.proofs.lemmas.List.Kept.{AllPairs-filter}
use Rattle.fraction_theory.specs.Fraction.{Fraction}
use Rattle.market_model.specs.declared.answered.Answer.{Answer}
use Rattle.market_model.specs.declared.answered.Dual.{Dual}
use Rattle.market_model.specs.declared.answered.Duals.{Duals}
use Rattle.market_model.specs.declared.answered.Farkas as infeasible
use Rattle.market_model.specs.declared.participants.Parts.{Parts}
use Rattle.market_model.specs.declared.limits.Row.{Row}
use Rattle.market_model.specs.declared.limits.Cause.TheVariants.{Base}
use Rattle.market_model.specs.LimitRows.{rows, row_id}
use Rattle.market_model.specs.Market.{IsMarket}
use Rattle.market_model.specs.Infeasibility.{IsFarkas, ShowsInfeasible}
use Rattle.market_model.specs.Optimality.{Feasible, ProperDuals, Supports, names_row, named_rows}
use Rattle.market_model.specs.Reserves.{no_reserve}
use Rattle.market_model.specs.RightAnswers.{IsRight, dispatch_in}
use Rattle.market_model.specs.Valued.{energy_duals}
use Rattle.market_model.proofs.EnergyAlone.{dispatch_alone, duals_alone}
use Rattle.market_model.proofs.ChangeLemmas.{same_default}
use Rattle.market_model.proofs.FarkasLaw.{law_of_infeasibility}
use Rattle.market_model.proofs.Optimum.{law_of_the_optimum}
use Rattle.market_model.specs.Dispatch.{dispatch_by}
use Rattle.limit_rows.proofs.ApartLemmas.{names_apart}
use Rattle.limit_rows.proofs.DualLemmas.{row_of_dual, named_count}
use Rattle.cert_format.specs.Certificates.{RowsAreDistinct, cert_against, cert_of, places_of, reserve_of}
use Rattle.cert_format.specs.declared.certificate.Cert.{Cert}
use Rattle.cert_format.specs.declared.certificate.Cert.TheVariants.{Optimal, Farkas}
use Rattle.cert_format.specs.declared.certificate.ReserveDuals.{ReserveDuals}
use Rattle.cert_verify.specs.Certificates.{IsShown, IsTrueOf, NamesRooms, NamesRows, dispatched, duals_of, named_duals, first_reason, kind_reasons}
use Rattle.cert_verify.specs.Laws.{LawOfTheVerdict, LawOfTheBest, LawOfNothingFeasible, LawOfRightAnswers, LawOfFarkasDuals}
use Rattle.cert_verify.specs.Reasons.{first_of, places_reason, verdict_of}
use Rattle.cert_verify.specs.declared.verdicts.Verdict.TheVariants.{Yes}
use Rattle.cert_verify.proofs.PlacesLemmas.{first_behind, places_from, places_to}
use Rattle.cert_verify.proofs.RoomLemmas.{names_rooms}
use Rattle.cert_verify.proofs.TestLemmas.{all_none, none_first, yes_none, none_yes}
use Rattle.cert_verify.proofs.VerdictLemmas.{Apart, optimal_to, optimal_from, farkas_to, farkas_from}

-- ---- what a certificate shows, whatever its places
-- its duals of limits are those that it lists, and so none of them is named twice
limits_are : (energy : Fraction) (limits : List (Dual Fraction)) (reserve : Option (ReserveDuals Fraction)) → (named_duals energy limits reserve).limits ≡ limits
limits_are energy limits None = refl
limits_are energy limits (Some d) = refl

duals_apart : (c : Cert Fraction) → RowsAreDistinct c → Apart (duals_of c).limits
duals_apart (Optimal blocks energy limits places reserve) apart = subst Apart (sym (limits_are energy limits (reserve_of (Optimal blocks energy limits places reserve)))) apart
duals_apart (Farkas energy limits places reserve) apart = subst Apart (sym (limits_are energy limits reserve)) apart

shown_to : (m : Parts) (c : Cert Fraction) → first_of (kind_reasons m c) ≡ None → IsShown m c
shown_to m (Optimal blocks energy limits places reserve) e = optimal_to m (dispatched blocks reserve) (duals_of (Optimal blocks energy limits places reserve)) e
shown_to m (Farkas energy limits places reserve) e = farkas_to m (duals_of (Farkas energy limits places reserve)) e

shown_from : (m : Parts) (c : Cert Fraction) → RowsAreDistinct c → IsShown m c → first_of (kind_reasons m c) ≡ None
shown_from m (Optimal blocks energy limits places reserve) apart h =
    optimal_from m (dispatched blocks reserve) (duals_of (Optimal blocks energy limits places reserve)) (duals_apart (Optimal blocks energy limits places reserve) apart) h
shown_from m (Farkas energy limits places reserve) apart h = farkas_from m (duals_of (Farkas energy limits places reserve)) (duals_apart (Farkas energy limits places reserve) apart) h

-- ---- the verdict
yes_shows : (m : Parts) (c : Cert Fraction) → verdict_of (first_reason m c) ≡ Yes → IsTrueOf m c
yes_shows m c told =
    let all = all_none (places_reason m (places_of c) ∷ kind_reasons m c) (yes_none (first_reason m c) told) in
    record { places = places_to m (places_of c) all.0; shown = shown_to m c (none_first (kind_reasons m c) all.1) }

shows_yes : (m : Parts) (c : Cert Fraction) → RowsAreDistinct c → IsTrueOf m c → verdict_of (first_reason m c) ≡ Yes
shows_yes m c apart h =
    none_yes (first_reason m c) (first_behind (places_reason m (places_of c)) (kind_reasons m c) (places_from m (places_of c) h.places) ∙ shown_from m c apart h.shown)

pub law_of_the_verdict : LawOfTheVerdict
law_of_the_verdict m c apart = (yes_shows m c, shows_yes m c apart)

pub law_of_the_best : LawOfTheBest
law_of_the_best m blocks energy limits places reserve market apart told =
    let h = (yes_shows m (Optimal blocks energy limits places reserve) told).shown in
    record {
      feasible = h.feasible;
      best = λ y f. law_of_the_optimum m (duals_of (Optimal blocks energy limits places reserve)) (dispatched blocks reserve) y market h.feasible h.supported f;
    }

pub law_of_nothing_feasible : LawOfNothingFeasible
law_of_nothing_feasible m energy limits places reserve market apart told y =
    let h = (yes_shows m (Farkas energy limits places reserve) told).shown in law_of_infeasibility m (duals_of (Farkas energy limits places reserve)) y market h.shows

-- ---- the duals of answers
module _ (m : Parts) (market : IsMarket m) (d : Duals Fraction) (proper : ProperDuals m d) where
  names_by : NamesRows m d.limits
  names_by k e lt =
      let at : get_or d.limits k e ≡ get_or d.limits k (get_or d.limits k e) = same_default d.limits k e (get_or d.limits k e) lt in
      let r = row_of_dual m market d proper.named k (get_or d.limits k e) lt at in
      (r.0, r.1.row, r.1.name)

  -- the name of the row of a dual
  name_is : (k : ℕ) (e : Dual Fraction) (n : Row) → k < length d.limits → row_id m (get_or (named_rows m d) k n) ≡ (get_or d.limits k e).row
  name_is k e n lt =
      let at : get_or d.limits k e ≡ get_or d.limits k (get_or d.limits k e) = same_default d.limits k e (get_or d.limits k e) lt in
      let r = row_of_dual m market d proper.named k (get_or d.limits k e) lt at in
      ap (row_id m) (same_default (named_rows m d) k n r.0 r.1.inside ∙ sym r.1.at) ∙ r.1.name

  apart_by : Apart d.limits
  apart_by i j e p q = λ same.
      let none : Row = record { line = 0; cause = Base } in
      let inside : j < length (named_rows m d) = Prim.omega (arith, q, named_count m market d proper.named) in
      AllPairs-filter (λ r s. row_id m r ≢ row_id m s) (λ r. names_row d.limits (row_id m r)) (rows m) (names_apart m market) i j none p inside
      (name_is i e none (Prim.omega (arith, p, q)) ∙ same ∙ sym (name_is j e none q))

-- duals without the prices of reserve and of rooms, where these are not listed, and whole where they are
module _ (m : Parts) (market : IsMarket m) where
  alone : m.reserve.listed ≡ false → m.reserve ≡ no_reserve
  alone e = market.reserve.unlisted e

  pub law_of_an_answer : (a : Answer Fraction) → IsRight m a → (listed : Bool) → m.reserve.listed ≡ listed → IsShown m (cert_of m.factor_places listed a)
  law_of_an_answer a right true e = record {
    rows = names_by m market a.duals right.proper;
    rooms = names_rooms m market a.duals right.proper;
    feasible = right.feasible;
    supported = right.supported;
  }
  law_of_an_answer a right false e =
      let x : dispatch_in a ≡ dispatch_by a.dispatch = dispatch_alone m (alone e) (dispatch_in a) right.feasible.blocks in
      let d : a.duals ≡ energy_duals a.duals.energy a.duals.limits = duals_alone m (alone e) a.duals right.proper in record {
        rows = names_by m market a.duals right.proper;
        rooms = subst (λ (e : Duals Fraction). NamesRooms m e.rooms) d (names_rooms m market a.duals right.proper);
        feasible = subst (Feasible m) x right.feasible;
        supported = subst₂ (Supports m) x d right.supported;
      }

  pub law_of_duals : (f : infeasible.Farkas Fraction) → IsFarkas m f → (listed : Bool) → m.reserve.listed ≡ listed → IsShown m (cert_against m.factor_places listed f)
  law_of_duals f shown true e = record { rows = names_by m market f.duals shown.proper; rooms = names_rooms m market f.duals shown.proper; shows = shown.shows }
  law_of_duals f shown false e =
      let d : f.duals ≡ energy_duals f.duals.energy f.duals.limits = duals_alone m (alone e) f.duals shown.proper in record {
        rows = names_by m market f.duals shown.proper;
        rooms = subst (λ (e : Duals Fraction). NamesRooms m e.rooms) d (names_rooms m market f.duals shown.proper);
        shows = subst (ShowsInfeasible m) d shown.shows;
      }

pub law_of_right_answers : LawOfRightAnswers
law_of_right_answers m a market right =
    let apart = apart_by m market a.duals right.proper in
    (apart, shows_yes m (cert_of m.factor_places m.reserve.listed a) apart (record { places = refl; shown = law_of_an_answer m market a right m.reserve.listed refl }))

pub law_of_farkas_duals : LawOfFarkasDuals
law_of_farkas_duals m f market shown =
    let apart = apart_by m market f.duals shown.proper in
    (apart, shows_yes m (cert_against m.factor_places m.reserve.listed f) apart (record { places = refl; shown = law_of_duals m market f shown m.reserve.listed refl }))
