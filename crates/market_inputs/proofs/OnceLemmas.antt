-- The bytes of files stand for one market, or have one first fault: each step of the work tells one thing.
use Rattle.std.proofs.Common.{◌≡◌, ◌∙◌, refl, sym, ap, subst, arith, ℕ, ℤ, List, map, Result, Ok, Err}
use Rattle.std.proofs.lemmas.Bool.{cases_lt}
use Rattle.std.proofs.Math.Logic.{⊎_elim}
use Rattle.record_reading.specs.Steps.{or_as}
use Rattle.case_text.specs.Matrices.{CaseMatrices}
use Rattle.market_data.specs.declared.scales.FactorPlaces.{FactorPlaces}
use Rattle.net_case.specs.declared.live_parts.Branches.TheVariants as branches
use Rattle.net_case.specs.declared.live_parts.NetBranch.{NetBranch}
use Rattle.net_case.specs.declared.live_parts.NetFault.{NetFault}
use Rattle.net_case.specs.declared.live_parts.PostRating.{PostRating}
use Rattle.net_case.specs.declared.live_parts.PostRating.TheVariants as rating
use Rattle.net_case.specs.Networks.{AreRows, LiveNetwork}
use Rattle.net_case.specs.NetworkReading.{network_of}
use Rattle.net_paths.specs.Connection.{IsSplit, bus_number}
use Rattle.refusal_text.specs.declared.refusals.Input.TheVariants as input
use Rattle.refusal_text.specs.declared.refusals.Refusal.{Refusal}
use Rattle.refusal_text.specs.declared.refusals.Refusal.TheVariants as refusal
use Rattle.market_inputs.specs.Cases.{IsJoined, IsJoinedNetwork, joined, matrices_in, network_in, case_reactances, split}
use Rattle.market_inputs.specs.Checking.{AreInputs, inputs_of}
use Rattle.market_inputs.specs.Clearing.{IsClearMarket, market_of}
use Rattle.market_inputs.specs.Files.{SizedGrid, SizedTables, sized}
use Rattle.market_inputs.specs.Making.{AreFactorInputs}
use Rattle.market_inputs.specs.Pooling.{IsPoolMarket, pool_of}
use Rattle.market_inputs.specs.Steps.{Is, Onward, Then}
use Rattle.market_inputs.specs.Tables.{AreListed, AreOutagesIn, AreTables, cover_in, loss_in, outage_numbers_in, offers_in, offsets_in, penalties_in, reserves_in, shift_in, unit_outages_in}
use Rattle.market_inputs.proofs.ListingOnce.{list-once}
use Rattle.market_inputs.proofs.NetworkRows.{network-rows}

-- what holds of one thing alone
abbrev pub OfOne : {A : Type 0} → (Result A Refusal → Type 0) → Type 0
OfOne {A} P = (a b : Result A Refusal) → P a → P b → a ≡ b

-- ---- steps
pub is-once : {A : Type 0} (made : Result A Refusal) → OfOne (Is made)
is-once made a b h k = sym h ∙ k

module _ {A B : Type 0} (P : Result A Refusal → Type 0) (Q : A → Result B Refusal → Type 0) where
  onward-once : ((x : A) → P (Ok x) → OfOne (Q x)) → (made : Result A Refusal) → P made → (a b : Result B Refusal) → Onward made Q a → Onward made Q b → a ≡ b
  onward-once next (Ok x) is a b h k = next x is a b h k
  onward-once next (Err r) is a b h k = h ∙ sym k

  pub then-once : OfOne P → ((x : A) → P (Ok x) → OfOne (Q x)) → OfOne (Then P Q)
  then-once first next a b h k = onward-once next h.made h.is a b h.rest (subst (λ (m : Result A Refusal). Onward m Q b) (first k.made h.made k.is h.is) k.rest)

-- ---- a joined network
split-once : (network : LiveNetwork) (a b : ℕ) → IsSplit network a → IsSplit network b → a ≡ b
split-once network a b h k =
    ⊎_elim (λ lt. absurd (h.apart (k.first h.place lt)))
    (λ le. ⊎_elim (λ lt. absurd (k.apart (h.first k.place lt)))
    (λ le'. let same : h.place ≡ k.place = omega (arith, le, le') in sym h.number_is ∙ ap (bus_number network) same ∙ k.number_is)
    (cases_lt k.place h.place))
    (cases_lt h.place k.place)

joined-once : (network : LiveNetwork) → OfOne (IsJoined network)
joined-once network _ _ (joined all) (joined all') = refl
joined-once network _ _ (joined all) (split b is) = absurd (is.apart (all is.place is.within))
joined-once network _ _ (split a is) (joined all) = absurd (is.apart (all is.place is.within))
joined-once network _ _ (split a is) (split b is') = ap (λ (n : ℕ). Err (refusal.Split n)) (split-once network a b is is')

joined-network-once : (rating : PostRating) (matrices : CaseMatrices) → OfOne (IsJoinedNetwork rating matrices)
joined-network-once rating matrices = then-once _ _ (is-once (network_in (branches.Read rating) matrices)) (λ network _. joined-once network)

-- the rows of its live branches rise
abbrev HasRows : LiveNetwork → Type 0
HasRows network = AreRows network.branch_rows (map (λ (b : NetBranch). b.row) network.branches)

joined-rows : (rating : PostRating) (matrices : CaseMatrices) (network : LiveNetwork) → IsJoinedNetwork rating matrices (Ok network) → HasRows network
joined-rows rating matrices network h = by h.made h.is h.rest
  where
    seen : (read : Result LiveNetwork NetFault) (n : LiveNetwork) → or_as refusal.Network read ≡ Ok n → read ≡ Ok n
    seen (Ok x) n is = cc is
    seen (Err e) n is = absurd (cc is)

    same : (n : LiveNetwork) → IsJoined n (Ok network) → n ≡ network
    same n (joined all) = refl

    by : (made : Result LiveNetwork Refusal) → network_in (branches.Read rating) matrices ≡ made → Onward made IsJoined (Ok network) → HasRows network
    by (Ok n) is rest = subst HasRows (same n rest) (network-rows rating matrices n (seen (network_of (branches.Read rating) matrices) n is))
    by (Err r) is rest = absurd (cc rest)

-- ---- the tables
module _ (network : LiveNetwork) (kept : HasRows network) where
  listed-once : (numbers : List ℤ) → OfOne (AreListed network numbers)
  listed-once numbers a b h k = h.same ∙ ap (or_as refusal.Outages) (list-once network kept numbers h.listed k.listed h.made k.made h.is k.is) ∙ sym k.same

  outages-once : (bytes : Result (List ℕ) Refusal) → OfOne (AreOutagesIn network bytes)
  outages-once bytes = then-once _ _ (is-once (outage_numbers_in bytes)) (λ numbers _. listed-once numbers)

  tables-once : (places : FactorPlaces) (grid : SizedGrid) → OfOne (AreTables places network grid)
  tables-once places grid =
      then-once _ _ (is-once (shift_in places network grid.ptdf))
      (λ shift _. then-once _ _ (is-once (loss_in places network grid.lodf)) (λ loss _. then-once _ _ (outages-once grid.contingencies) (λ outages _. is-once (Ok (record { shift = shift; loss = loss; outages = outages })))))

-- ---- the markets
pub pool-once : (case offers : Result (List ℕ) Refusal) → OfOne (IsPoolMarket case offers)
pool-once case offers =
    then-once _ _ (is-once (matrices_in case))
    (λ matrices _. then-once _ _ (is-once (network_in branches.Skip matrices)) (λ network _. then-once _ _ (is-once (offers_in network offers)) (λ offered _. is-once (Ok (pool_of network offered)))))

pub clear-once : (rating : PostRating) (places : FactorPlaces) (files : SizedTables) → OfOne (IsClearMarket rating places files)
clear-once rating places files =
    then-once _ _ (is-once (matrices_in files.grid.case))
    (λ matrices _. then-once _ _ (joined-network-once rating matrices)
    (λ network is. then-once _ _ (tables-once network (joined-rows rating matrices network is) places files.grid)
    (λ tables _. then-once _ _ (is-once (unit_outages_in network files.unit_outages))
    (λ lost _. then-once _ _ (is-once (cover_in network tables lost))
    (λ _ _. then-once _ _ (is-once (offers_in network files.offers))
    (λ offered _. then-once _ _ (is-once (reserves_in network files.reserves))
    (λ reserve _. then-once _ _ (is-once (offsets_in network files.offsets))
    (λ moved _. then-once _ _ (is-once (penalties_in network files.penalties)) (λ priced _. is-once (Ok (market_of places network tables lost offered reserve moved priced)))))))))))

-- ---- what a check works on
pub inputs-once : (places : FactorPlaces) (files : SizedGrid) → OfOne (AreInputs places files)
inputs-once places files =
    then-once _ _ (is-once (matrices_in files.case))
    (λ matrices _. then-once _ _ (joined-network-once rating.C matrices)
    (λ network is. then-once _ _ (is-once (case_reactances matrices network))
    (λ reactances _. then-once _ _ (tables-once network (joined-rows rating.C matrices network is) places files)
    (λ tables _. is-once (Ok (inputs_of network reactances tables))))))

-- ---- what tables of factors are made of
pub factor-inputs-once : (case contingencies : List ℕ) → OfOne (AreFactorInputs case contingencies)
factor-inputs-once case contingencies =
    then-once _ _ (is-once (matrices_in (sized (refusal.TooLong input.Case) case)))
    (λ matrices _. then-once _ _ (joined-network-once rating.C matrices)
    (λ network is. then-once _ _ (is-once (case_reactances matrices network))
    (λ reactances _. then-once _ _ (outages-once network (joined-rows rating.C matrices network is) (sized (refusal.TooLong input.Contingencies) contingencies))
    (λ outages _. is-once (Ok (record { network = network; reactances = reactances; outages = outages }))))))
