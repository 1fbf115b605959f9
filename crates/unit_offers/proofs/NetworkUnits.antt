-- The units of a network have ranges.
use Rattle.std.specs.Prelude.{◌≡◌, ℕ, ◌<◌, ◌≤◌, ℤ, pos, ◌+ℤ◌, ◌-ℤ◌, ◌≤ℤ◌, ◌<ℤ◌, Bool, true, false, length, map, slice_index_or, if◌then◌else◌}
use Rattle.std.specs.Int.Signed.{lt_z, lt_z_no, lt_z_yes}
use Rattle.std.proofs.Common.{arith, sym, subst, refl}
use Rattle.std.proofs.lemmas.Int.{ints}
use Rattle.std.proofs.lemmas.List.{get_or-map, length-map}
use Rattle.market_data.specs.Participants.{IsDatum}
use Rattle.net_case.specs.declared.live_parts.NetUnit.{NetUnit}
use Rattle.net_case.specs.Networks.{IsNetUnit}
use Rattle.net_case.specs.NetworkReading.{nearest_0, unit_within}
use Rattle.unit_offers.specs.UnitOffers.{HasBounds, IsRanged}
use Rattle.unit_offers.specs.OfferLaws.{LawOfNetworkUnits}

-- a fixed part in its bounds, from which 0 is not farther than either bound
record IsFixed (low high fixed : ℤ) : Type 0 where
  above : low ≤ℤ fixed
  below : fixed ≤ℤ high
  up : IsDatum (high -ℤ fixed)
  down : IsDatum (fixed -ℤ low)

nearest-fixed : (low high : ℤ) → low ≤ℤ high → IsDatum low → IsDatum high → IsFixed low high (nearest_0 low high)
nearest-fixed low high order l h = by (lt_z (pos 0) low) (lt_z high (pos 0)) refl refl
  where
    by : (a b : Bool) → a ≡ lt_z (pos 0) low → b ≡ lt_z high (pos 0) → IsFixed low high (if a then low else if b then high else pos 0)
    by true b p q =
        let least : pos 0 <ℤ low = lt_z_yes {a = pos 0} {b = low} (Prim.rw (sym p) tt) in
        record { above = Prim.omega (arith, ints); below = order; up = Prim.omega (arith, ints, least, order, l, h); down = Prim.omega (arith, ints, l) }
    by false true p q =
        let most : high <ℤ pos 0 = lt_z_yes {a = high} {b = pos 0} (Prim.rw (sym q) tt) in
        record { above = order; below = Prim.omega (arith, ints); up = Prim.omega (arith, ints, h); down = Prim.omega (arith, ints, most, order, l, h) }
    by false false p q =
        let least : low ≤ℤ pos 0 = lt_z_no {a = pos 0} {b = low} (Prim.rw (sym p) tt) in
        let most : pos 0 ≤ℤ high = lt_z_no {a = high} {b = pos 0} (Prim.rw (sym q) tt) in
        record { above = least; below = most; up = Prim.omega (arith, ints, most, h); down = Prim.omega (arith, ints, least, l) }

fixed-datum : (low high fixed : ℤ) → IsDatum low → IsDatum high → IsFixed low high fixed → IsDatum fixed
fixed-datum low high fixed l h is = let above = is.above in let below = is.below in Prim.omega (arith, ints, l, h, above, below)

back_up : (x y : ℤ) → y ≡ x +ℤ (y -ℤ x)
back_up x y = Prim.omega (arith, ints)

back_down : (x y : ℤ) → y ≡ x -ℤ (x -ℤ y)
back_down x y = Prim.omega (arith, ints)

not_below : (x y : ℤ) → x ≤ℤ y → pos 0 ≤ℤ (y -ℤ x)
not_below x y h = Prim.omega (arith, ints, h)

within-bounds : (buses : ℕ) (u : NetUnit) → IsNetUnit buses u → HasBounds (unit_within u)
unfolding unit_within
within-bounds buses u is =
    let fixed = nearest_0 u.low u.high in
    let at = nearest-fixed u.low u.high is.order is.low is.high in
    record {
      fixed = fixed-datum u.low u.high fixed is.low is.high at;
      most = subst IsDatum (back_up fixed u.high) is.high;
      least = subst IsDatum (back_down fixed u.low) is.low;
      up = (not_below fixed u.high at.below, at.up);
      down = (not_below u.low fixed at.above, at.down);
    }

same-row : (u : NetUnit) → (unit_within u).row ≡ u.row
unfolding unit_within
same-row u = refl

pub network_units : LawOfNetworkUnits
network_units network is k d lt =
    let e : NetUnit = record { row = 0; bus = 0; low = pos 0; high = pos 0 } in
    let within : k < length network.units = Prim.omega (arith, lt, length-map network.units unit_within) in
    let u = slice_index_or network.units k e in
    let here : slice_index_or (map unit_within network.units) k d ≡ unit_within u = get_or-map unit_within network.units k e d within in
    let wide : k < length (map (λ (u : NetUnit). u.row) network.units) = Prim.omega (arith, within, length-map network.units (λ (u : NetUnit). u.row)) in
    let row : (1 ≤ u.row) × (u.row ≤ network.gen_rows) = subst (λ n. (1 ≤ n) × (n ≤ network.gen_rows)) (get_or-map (λ (u : NetUnit). u.row) network.units k e 0 within) (is.unit_rows.range k 0 wide) in
    subst (IsRanged network.gen_rows) (sym here) (record {
      row = subst (λ n. (1 ≤ n) × (n ≤ network.gen_rows)) (sym (same-row u)) row;
      bounds = within-bounds (length network.buses) u (is.units k e within);
    })
