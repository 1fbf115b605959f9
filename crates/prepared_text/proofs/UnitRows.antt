-- The units of a network have distinct gen rows.
use Rattle.std.proofs.Common.{◌≡◌, ◌≢◌, ℕ, ◌<◌, ◌≤◌, List, [], ◌∷◌, length, map, arith, refl, sym, ap, subst}
use Rattle.std.specs.Prelude.{All, AllPairs}
use Rattle.std.proofs.lemmas.List.{get_or-map, length-map}
use Rattle.market_data.specs.declared.participants.Unit as unit
use Rattle.net_case.specs.NetworkReading.{unit_within}
use Rattle.net_case.specs.declared.live_parts.NetUnit.{NetUnit}
use Rattle.prepared_text.specs.OfferLaws.{LawOfUnitRows}

same-rows : (units : List NetUnit) → map (λ (u : unit.Unit). u.row) (map unit_within units) ≡ map (λ (u : NetUnit). u.row) units
unfolding unit_within
same-rows [] = refl
same-rows (u ∷ units) = ap (λ rows. u.row ∷ rows) (same-rows units)

rise-apart : (rows : List ℕ) → AllPairs (λ a b. a < b) rows → AllPairs (λ a b. a ≢ b) rows
rise-apart rows rise i j d lt within e = let up = rise i j d lt within in omega (arith, up, e)

pub unit-rows : LawOfUnitRows
unit-rows network is =
    let rows = same-rows network.units in
    record {
      rows = let few = is.gen_count in omega (arith, few);
      range = λ k d lt.
          let inside : k < length (map (λ (u : unit.Unit). u.row) (map unit_within network.units)) = omega (arith, lt, length-map (map unit_within network.units) (λ (u : unit.Unit). u.row)) in
          let here = subst (All (λ row. (1 ≤ row) × (row ≤ network.gen_rows))) (sym rows) is.unit_rows.range k 0 inside in
          let same = get_or-map (λ (u : unit.Unit). u.row) (map unit_within network.units) k d 0 lt in
          subst (λ (row : ℕ). (1 ≤ row) × (row ≤ network.gen_rows)) same here;
      distinct = subst (AllPairs (λ a b. a ≢ b)) (sym rows) (rise-apart (map (λ u. u.row) network.units) is.unit_rows.rise);
    }
