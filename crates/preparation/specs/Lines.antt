-- What is told of a case and of what was made of it, line by line.
use Rattle.std.specs.Prelude.{ℕ, ◌+◌, ◌==◌, ◌||◌, ℤ, pos, int_lt, Bool, true, false, List, [], ◌∷◌, ◌++◌, codes, decimal, length, Option, Some, None, is_some, Result, Ok, Err, if◌then◌else◌}
use Rattle.std.specs.List.{filter, flat_map}
use Rattle.line_text.specs.Decimals.{decimal_text}
use Rattle.market_data.specs.Scales.{mw_places}
use Rattle.market_data.specs.WholeSums.{int_sum}
use Rattle.market_data.specs.declared.participants.Unit as unit
use Rattle.market_data.specs.declared.participants.UnitList.{UnitList}
use Rattle.case_text.specs.Matrices.{CaseMatrices}
use Rattle.net_case.specs.Networks.{LiveNetwork}
use Rattle.net_case.specs.NetworkReading.{network_of}
use Rattle.net_case.specs.declared.live_parts.Branches.TheVariants as branches
use Rattle.net_case.specs.declared.live_parts.NetBranch.{NetBranch}
use Rattle.net_case.specs.declared.live_parts.NetFault.{NetFault}
use Rattle.net_case.specs.declared.live_parts.PostRating.{PostRating}
use Rattle.net_case.specs.declared.live_parts.PostRating.TheVariants as rating
use Rattle.factor_tables.specs.Penalties.{branch_limit}
use Rattle.factor_tables.specs.declared.penalty_list.Softness.{Softness}
use Rattle.outage_choice.specs.declared.OutageChoice.{OutageChoice}
use Rattle.unit_offers.specs.declared.offers.UnitOffers.{UnitOffers}
use Rattle.preparation.specs.declared.parts.Prepared.{Prepared}
use Rattle.preparation.specs.declared.parts.Wanted.{Wanted}

-- ---- offers
-- a unit whose output may be changed at all, and so has steps
abbrev pub has_range : unit.Unit → Bool
has_range u = int_lt (pos 0) u.up || int_lt (pos 0) u.down

abbrev pub no_steps_line : unit.Unit → List ℕ
no_steps_line u = if has_range u then [] else codes "no-steps " ++ decimal u.row ++ codes "\n"

-- how many prices were rounded, where some were
unfoldable pub rounded_words : ℕ → List ℕ
rounded_words rounded = if rounded == 0 then [] else codes " rounded " ++ decimal rounded

-- how many steps of how many units, and then the units without steps
abbrev pub steps_lines : List unit.Unit → UnitOffers → List ℕ
steps_lines units offers =
    codes "offers " ++ decimal (length offers.blocks) ++ codes " steps of "
    ++ (decimal (length (filter has_range units)) ++ codes " units" ++ (rounded_words offers.rounded ++ (codes "\n" ++ flat_map no_steps_line units)))

unfoldable pub offers_line : UnitList → Option UnitOffers → List ℕ
offers_line units None = []
offers_line units (Some offers) = steps_lines units.units offers

-- ---- outages
abbrev pub radial_line : ℕ → List ℕ
radial_line row = codes "radial " ++ decimal row ++ codes "\n"

-- how many are listed, and then the radial branches, which are not
unfoldable pub outages_line : Option OutageChoice → List ℕ
outages_line None = []
outages_line (Some choice) =
    codes "outages " ++ decimal (length choice.listed) ++ codes " listed " ++ decimal (length choice.radial) ++ codes " radial\n" ++ flat_map radial_line choice.radial

-- ---- limits
-- how many branches have a limit, in the base or after an outage
abbrev pub limited : Bool → List NetBranch → ℕ
limited post branches = length (filter (λ branch. is_some (branch_limit post branch)) branches)

-- how many limits have a penalty: all of them, where penalties are wanted
abbrev pub soft_line : List NetBranch → List ℕ
soft_line branches = codes "penalties " ++ decimal (limited false branches + limited true branches) ++ codes " limits\n"

unfoldable pub penalties_line : Option Softness → LiveNetwork → List ℕ
penalties_line None network = []
penalties_line (Some softness) network = soft_line network.branches

abbrev pub limited_in : Result LiveNetwork NetFault → ℕ
limited_in (Ok network) = limited true network.branches
limited_in (Err fault) = 0

-- how many branches a rating would limit after an outage; none where its column can't be read
abbrev pub post_count : PostRating → CaseMatrices → ℕ
post_count r matrices = limited_in (network_of (branches.Read r) matrices)

abbrev pub rating_letter : PostRating → List ℕ
rating_letter rating.A = codes "a"
rating_letter rating.B = codes "b"
rating_letter rating.C = codes "c"

-- so many of so many
abbrev pub share_text : ℕ → ℕ → List ℕ
share_text count total = decimal count ++ codes " of " ++ decimal total ++ codes "\n"

-- how many branches of so many a rating would limit, where it would some
abbrev pub limiting_line : PostRating → ℕ → ℕ → List ℕ
limiting_line r count total = if count == 0 then [] else codes "post-rating " ++ (rating_letter r ++ (codes " " ++ share_text count total))

abbrev pub post_line : CaseMatrices → ℕ → PostRating → List ℕ
post_line matrices total r = limiting_line r (post_count r matrices) total

abbrev pub each_post_line : CaseMatrices → ℕ → List ℕ
each_post_line matrices total = post_line matrices total rating.A ++ post_line matrices total rating.B ++ post_line matrices total rating.C

-- the ratings that would, where the one that is asked for limits no branch
abbrev pub post_lines : CaseMatrices → List NetBranch → List ℕ
post_lines matrices branches = if limited true branches == 0 then each_post_line matrices (length branches) else []

-- how many branches have limits
abbrev pub limited_line : List NetBranch → List ℕ
limited_line branches =
    codes "ratings base " ++ decimal (limited false branches) ++ codes " of "
    ++ (decimal (length branches) ++ (codes " post " ++ share_text (limited true branches) (length branches)))

abbrev pub ratings_lines : CaseMatrices → List NetBranch → List ℕ
ratings_lines matrices branches = limited_line branches ++ post_lines matrices branches

-- ---- must-run units
-- what a unit puts out though none of its blocks is accepted, where that is above 0
abbrev pub must_run_of : unit.Unit → ℤ
must_run_of u = if int_lt (pos 0) u.fixed then u.fixed else pos 0

abbrev pub must_run : List unit.Unit → ℤ
must_run units = int_sum must_run_of units

abbrev pub must_run_line : List unit.Unit → List ℕ
must_run_line units = codes "must-run " ++ decimal_text mw_places (must_run units) ++ codes "\n"

-- ---- all lines
unfoldable pub prepared_text : Wanted → Prepared → List ℕ
prepared_text wanted p =
    offers_line p.units p.offers ++ outages_line p.outages ++ penalties_line wanted.softness p.inputs.network
    ++ ratings_lines p.inputs.raw p.inputs.network.branches ++ must_run_line p.units.units
