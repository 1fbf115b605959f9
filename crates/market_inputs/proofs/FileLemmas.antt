-- Files that are too long.
use Rattle.std.proofs.Common.{◌≡◌, ◌≤◌, ◌<◌, ℕ, List, length, take, Bool, true, false, Ok, Err, refl, sym, ◌∙◌, ap, arith}
use Rattle.std.proofs.lemmas.Bool.{le-ltb, lt-ltb, ltb-true, ltb-false}
use Rattle.std.proofs.lemmas.List.{take_all, length-take-le}
use Rattle.std.specs.Prelude.{nat_lt}
use Rattle.refusal_text.specs.declared.refusals.Input.TheVariants as input
use Rattle.refusal_text.specs.declared.refusals.Refusal.{Refusal}
use Rattle.refusal_text.specs.declared.refusals.Refusal.TheVariants as refusal
use Rattle.market_tables.specs.Tables.{EachOf, EachOfGrid, GridTexts, MarketTexts}
use Rattle.market_inputs.specs.Files.{most_file, sized, sized_grid, sized_tables}

-- ---- whether a file is too long
pub sized-short : (file : Refusal) (bytes : List ℕ) → length bytes ≤ 33554432 → sized file bytes ≡ Ok bytes
unfolding sized
sized-short file bytes short = let is : nat_lt most_file (length bytes) ≡ false = le-ltb _ _ (omega arith) in rw is refl

pub sized-long : (file : Refusal) (bytes : List ℕ) → 33554432 < length bytes → sized file bytes ≡ Err file
unfolding sized
sized-long file bytes long = let is : nat_lt most_file (length bytes) ≡ true = lt-ltb _ _ (omega arith) in rw is refl

-- ---- files that are cut behind the first byte too many
pub sized-cut : (file : Refusal) (bytes : List ℕ) → sized file (take 33554433 bytes) ≡ sized file bytes
sized-cut file bytes = by (nat_lt 33554432 (length bytes)) refl
  where
    by : (over : Bool) → nat_lt 33554432 (length bytes) ≡ over → sized file (take 33554433 bytes) ≡ sized file bytes
    by true over =
        let long : 33554432 < length bytes = ltb-true _ _ over in
        let cut : length (take 33554433 bytes) ≡ 33554433 = length-take-le 33554433 bytes (omega (arith, long)) in
        sized-long file (take 33554433 bytes) (omega (arith, cut)) ∙ sym (sized-long file bytes long)
    by false over =
        let short : length bytes ≤ 33554432 = ltb-false _ _ over in
        ap (sized file) (take_all 33554433 bytes (omega (arith, short)))

-- ---- texts that are alike, of whatever file they are
abbrev pub AreAlike : List ℕ → List ℕ → Type 0
AreAlike a b = (file : Refusal) → sized file a ≡ sized file b

pub alike-grid : (a b : GridTexts) → EachOfGrid AreAlike a b → sized_grid a ≡ sized_grid b
alike-grid a b h = λ i. record {
  case = h.case (refusal.TooLong input.Case) i;
  ptdf = h.ptdf (refusal.TooLong input.Ptdf) i;
  lodf = h.lodf (refusal.TooLong input.Lodf) i;
  contingencies = h.contingencies (refusal.TooLong input.Contingencies) i;
}

pub alike-tables : (a b : MarketTexts) → EachOf AreAlike a b → sized_tables a ≡ sized_tables b
alike-tables a b h = λ i. record {
  grid = alike-grid a.grid b.grid h.grid i;
  unit_outages = h.unit_outages (refusal.TooLong input.UnitOutages) i;
  offers = h.offers (refusal.TooLong input.Offers) i;
  reserves = h.reserves (refusal.TooLong input.Reserves) i;
  offsets = h.offsets (refusal.TooLong input.Offsets) i;
  penalties = h.penalties (refusal.TooLong input.Penalties) i;
}
