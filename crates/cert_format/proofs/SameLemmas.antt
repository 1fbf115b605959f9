-- The text of a certificate is read as no other one.
use Rattle.std.specs.Prelude.{◌≡◌, ◌==◌, ℕ, Bool, true, ◌<◌, ◌+◌, ◌^◌, List, [], ◌∷◌, map, All, Option, Some, None, Ok, unsigned_abs, option_and_then, option_map, if◌then◌else◌}
use Rattle.std.proofs.Common.{◌∙◌, ap, ap₂, arith, refl, suc, sym, zero}
use Rattle.std.proofs.lemmas.Bool.{lt-ltb}
use Rattle.std.proofs.lemmas.Option.{cond_some, option_and_then_some, same_Some}
use Rattle.std.proofs.lemmas.Str.{is_utf8-from_IsUtf8}
use Rattle.fraction_theory.specs.Fraction.{Fraction}
use Rattle.exact_fraction.specs.Written.{parts_text}
use Rattle.market_data.specs.Scales.{place_count}
use Rattle.market_model.specs.declared.answered.Dual.{Dual}
use Rattle.market_model.specs.declared.answered.RoomDual.{RoomDual}
use Rattle.serde_json.specs.Data.{Data}
use Rattle.serde_json.specs.View.{items_of}
use Rattle.serde_json.proofs.OnLiterals.{serde_json_on_literals}
use Rattle.cert_format.specs.declared.certificate.Cert.{Cert}
use Rattle.cert_format.specs.declared.certificate.Cert.TheVariants as cert
use Rattle.cert_format.specs.declared.certificate.ClearedReserve.{ClearedReserve}
use Rattle.cert_format.specs.declared.certificate.Key.TheVariants as key
use Rattle.cert_format.specs.declared.certificate.ReserveDuals.{ReserveDuals}
use Rattle.cert_format.specs.declared.forms.Version.TheVariants as version
use Rattle.cert_format.specs.Certificates.{Fits, NamesFit, RowFits}
use Rattle.cert_format.specs.FractionTexts.{fraction_of_text}
use Rattle.cert_format.specs.Grammar.{cert_in, cert_read, cleared_reserve_in, each, farkas_in, fraction_in, if_distinct, distinct, limit_in, members_with, optimal_in, places_named, reserve_duals_in, room_dual_in}
use Rattle.cert_format.specs.Laws.{LawOfMigratedTexts, LawOfOneReading}
use Rattle.cert_format.specs.Written.{cert_data, cert_text, cleared_reserve_data, fraction_data, limit_data, reserve_duals_data, room_data}
use Rattle.cert_format.proofs.CertLemmas.{after_unit, one-reader, places-back, read-cert_text, utf8-cert_text}
use Rattle.cert_format.proofs.FractionLemmas.{fraction_of_text-read, fraction_of_text-spells}
use Rattle.cert_format.proofs.InverseLemmas.{needed, ok_is}
use Rattle.cert_format.proofs.ReserveTexts.{UnitsFit}
use Rattle.cert_format.proofs.RowLemmas.{not_0}

-- a text spells one fraction, whatever the bounds of its parts
fraction-same : (most : ℕ) (x y : Fraction) → fraction_of_text most (parts_text x) ≡ Some y → y ≡ x
fraction-same most x y h =
    let s = fraction_of_text-spells most (parts_text x) y h in
    let wide = most + unsigned_abs x.num + x.den in
    let own : Fits wide x = record { num = omega arith; den = omega arith } in
    let other : Fits wide y = record { num = omega (arith, s.fits.num); den = omega (arith, s.fits.den) } in
    same_Some _ _ (sym (fraction_of_text-read wide (parts_text x) y (record { spelling = s.spelling; fits = other })) ∙ fraction_of_text-read wide (parts_text x) x (record { spelling = refl; fits = own }))

-- so items are read as those that they were written of
each-same : {A : Type 0} (P : A → Type 0) (read : Data → Option A) (data_of : A → Data) → ((x y : A) → P x → read (data_of x) ≡ Some y → y ≡ x)
    → (xs ys : List A) → All P xs → each read (items_of (map data_of xs)) ≡ Some ys → ys ≡ xs
unfolding each
each-same P read data_of same [] [] all h = refl
each-same P read data_of same [] (y ∷ ys) all h = cc
each-same P read data_of same (x ∷ xs) ys all h =
    option_and_then_some _ (read (data_of x)) ys h (λ z e1 h1.
    option_and_then_some _ (each read (items_of (map data_of xs))) ys h1 (λ zs e2 h2.
    let is : z ∷ zs ≡ ys = cc in
    sym is ∙ ap₂ (λ u us. u ∷ us) (same x z (all 0 x (omega arith)) e1) (each-same P read data_of same xs zs (λ k d lt. all (suc k) d (omega (arith, lt))) e2)))

module _ (most : ℕ) where
  -- ---- the duals of a limit
  module _ (branch outage : ℕ) (up down : Fraction) (b : branch < 2 ^ 32) (o : outage < 2 ^ 32) where
    prices-same : (unit : ℕ) (y : Dual Fraction) (sized : Bool)
        → option_and_then (λ u. option_and_then (λ d. if sized then Some (after_unit branch outage u d unit) else None) (fraction_of_text most (parts_text down))) (fraction_of_text most (parts_text up)) ≡ Some y
        → y ≡ after_unit branch outage up down unit
    prices-same unit y sized h =
        option_and_then_some _ (fraction_of_text most (parts_text up)) y h (λ u e1 h1.
        option_and_then_some _ (fraction_of_text most (parts_text down)) y h1 (λ d e2 h2.
        sym (cond_some sized (after_unit branch outage u d unit) y h2).1
        ∙ ap₂ (λ (v w : Fraction). after_unit branch outage v w unit) (fraction-same most up u e1) (fraction-same most down d e2)))

    unit-same : (unit : ℕ) (y : Dual Fraction) → unit < 2 ^ 32 → limit_in most version.Second (limit_data (after_unit branch outage up down unit)) ≡ Some y → y ≡ after_unit branch outage up down unit
    unfolding serde_json_on_literals limit_in
    unit-same zero y u h = prices-same zero y true (rw (lt-ltb _ _ b, lt-ltb _ _ o) at h)
    unit-same (suc unit) y u h = prices-same (suc unit) y (5 == members_with (suc unit)) (rw (not_0 unit, lt-ltb _ _ b, lt-ltb _ _ o, lt-ltb _ _ u, not_0 unit) at h)

  limit-same : (d y : Dual Fraction) → RowFits d.row → limit_in most version.Second (limit_data d) ≡ Some y → y ≡ d
  limit-same d y row h = unit-same d.row.branch d.row.outage d.up d.down row.branch row.outage d.row.unit y row.unit h

  fractions-same : (xs ys : List Fraction) → each (fraction_in most) (items_of (map fraction_data xs)) ≡ Some ys → ys ≡ xs
  fractions-same xs ys h = each-same (λ x. Unit {0}) (fraction_in most) fraction_data (λ x y p e. fraction-same most x y e) xs ys (λ k x lt. tt) h

  limits-same : (ds es : List (Dual Fraction)) → All (λ d. RowFits d.row) ds → option_and_then if_distinct (each (limit_in most version.Second) (items_of (map limit_data ds))) ≡ Some es → es ≡ ds
  limits-same ds es rows h =
      option_and_then_some if_distinct (each (limit_in most version.Second) (items_of (map limit_data ds))) es h (λ ys e1 h1.
      sym (cond_some (distinct ys) ys es h1).1 ∙ each-same (λ d. RowFits d.row) (limit_in most version.Second) limit_data limit-same ds ys rows e1)

  limits-same-3 : (ds es : List (Dual Fraction)) → All (λ d. RowFits d.row) ds → option_and_then if_distinct (each (limit_in most version.Third) (items_of (map limit_data ds))) ≡ Some es → es ≡ ds
  limits-same-3 ds es rows h = limits-same ds es rows (ap (λ (read : Data → Option (Dual Fraction)). option_and_then if_distinct (each read (items_of (map limit_data ds)))) (sym (one-reader most)) ∙ h)

  -- ---- reserve
  room-same : (d y : RoomDual Fraction) → d.unit < 2 ^ 32 → room_dual_in most (room_data d) ≡ Some y → y ≡ d
  unfolding serde_json_on_literals room_dual_in
  room-same d y u h =
      option_and_then_some _ (fraction_of_text most (parts_text d.price)) y (rw (lt-ltb _ _ u) at h) (λ price e1 h1.
      sym (same_Some _ _ h1) ∙ ap (λ (p : Fraction). record { unit = d.unit; price = p }) (fraction-same most d.price price e1))

  abbrev priced : Fraction → List (RoomDual Fraction) → ReserveDuals Fraction
  priced price rooms = record { price = price; rooms = rooms }

  abbrev rooms_read : List (RoomDual Fraction) → Option (List (RoomDual Fraction))
  rooms_read rooms = each (room_dual_in most) (items_of (map room_data rooms))

  reserve-same : (price : Fraction) (rooms : List (RoomDual Fraction)) (y : ReserveDuals Fraction) → UnitsFit rooms
      → option_and_then (λ p. option_and_then (λ rs. Some (priced p rs)) (rooms_read rooms)) (fraction_of_text most (parts_text price)) ≡ Some y → y ≡ priced price rooms
  reserve-same price rooms y units h =
      option_and_then_some _ (fraction_of_text most (parts_text price)) y h (λ p e1 h1.
      option_and_then_some _ (rooms_read rooms) y h1 (λ rs e2 h2.
      sym (same_Some _ _ h2) ∙ ap₂ priced (fraction-same most price p e1) (each-same (λ d. d.unit < 2 ^ 32) (room_dual_in most) room_data room-same rooms rs units e2)))

  duals-same : (d y : ReserveDuals Fraction) → UnitsFit d.rooms → reserve_duals_in 2 most (reserve_duals_data d) ≡ Some y → y ≡ d
  unfolding serde_json_on_literals reserve_duals_in
  duals-same d y units h = reserve-same d.price d.rooms y units h

  three-same : (r : ClearedReserve Fraction) (y : ReserveDuals Fraction) → UnitsFit r.duals.rooms → reserve_duals_in 3 most (cleared_reserve_data r) ≡ Some y → y ≡ r.duals
  unfolding serde_json_on_literals reserve_duals_in
  three-same r y units h = reserve-same r.duals.price r.duals.rooms y units h

  cleared-same : (r y : ClearedReserve Fraction) → UnitsFit r.duals.rooms → cleared_reserve_in most (cleared_reserve_data r) ≡ Some y → y ≡ r
  unfolding serde_json_on_literals cleared_reserve_in
  cleared-same r y units h =
      option_and_then_some _ (each (fraction_in most) (items_of (map fraction_data r.quantities))) y h (λ xs e1 h1.
      option_and_then_some _ (reserve_duals_in 3 most (cleared_reserve_data r)) y h1 (λ duals e2 h2.
      sym (same_Some _ _ h2) ∙ ap₂ (λ (qs : List Fraction) (ds : ReserveDuals Fraction). record { quantities = qs; duals = ds }) (fractions-same r.quantities xs e1) (three-same r duals units e2)))

  -- the part of a text of the third version
  part-same : {A : Type 0} (read : Option A) (x : A) (o : Option A) → ((y : A) → read ≡ Some y → y ≡ x) → option_map (λ r. Some r) read ≡ Some o → o ≡ Some x
  part-same None x o same h = cc
  part-same (Some y) x o same h = sym (same_Some _ _ h) ∙ ap (λ r. Some r) (same y refl)

  -- ---- certificates
  cert-same : (c d : Cert Fraction) → NamesFit c → cert_in most (cert_data c) ≡ Ok d → d ≡ c
  unfolding serde_json_on_literals cert_in optimal_in farkas_in
  cert-same (cert.Optimal blocks energy limits places None) d names h =
      let e = needed key.Energy (fraction_of_text most (parts_text energy)) _ d h in
      let b = needed key.Blocks (each (fraction_in most) (items_of (map fraction_data blocks))) _ d e.rest in
      let l = needed key.Limits (option_and_then if_distinct (each (limit_in most version.Second) (items_of (map limit_data limits)))) _ d b.rest in
      let p = needed key.Places (places_named (place_count places)) _ d l.rest in
      let is = ok_is (cert.Optimal b.value e.value l.value p.value None) d p.rest in
      let same_blocks = fractions-same blocks b.value b.is in
      let same_energy = fraction-same most energy e.value e.is in
      let same_limits = limits-same limits l.value names.limits l.is in
      let same_places = same_Some _ _ (sym p.is ∙ places-back places) in
      sym is ∙ (λ i. cert.Optimal (same_blocks i) (same_energy i) (same_limits i) (same_places i) None)
  cert-same (cert.Optimal blocks energy limits places (Some cleared)) d names h =
      let e = needed key.Energy (fraction_of_text most (parts_text energy)) _ d h in
      let b = needed key.Blocks (each (fraction_in most) (items_of (map fraction_data blocks))) _ d e.rest in
      let l = needed key.Limits (option_and_then if_distinct (each (limit_in most version.Third) (items_of (map limit_data limits)))) _ d b.rest in
      let p = needed key.Places (places_named (place_count places)) _ d l.rest in
      let r = needed key.Reserve (option_map (λ x. Some x) (cleared_reserve_in most (cleared_reserve_data cleared))) _ d p.rest in
      let is = ok_is (cert.Optimal b.value e.value l.value p.value r.value) d r.rest in
      let same_blocks = fractions-same blocks b.value b.is in
      let same_energy = fraction-same most energy e.value e.is in
      let same_limits = limits-same-3 limits l.value names.limits l.is in
      let same_places = same_Some _ _ (sym p.is ∙ places-back places) in
      let same_reserve = part-same (cleared_reserve_in most (cleared_reserve_data cleared)) cleared r.value (λ y f. cleared-same cleared y names.rooms f) r.is in
      sym is ∙ (λ i. cert.Optimal (same_blocks i) (same_energy i) (same_limits i) (same_places i) (same_reserve i))
  cert-same (cert.Farkas energy limits places None) d names h =
      let e = needed key.Energy (fraction_of_text most (parts_text energy)) _ d h in
      let l = needed key.Limits (option_and_then if_distinct (each (limit_in most version.Second) (items_of (map limit_data limits)))) _ d e.rest in
      let p = needed key.Places (places_named (place_count places)) _ d l.rest in
      let is = ok_is (cert.Farkas e.value l.value p.value None) d p.rest in
      let same_energy = fraction-same most energy e.value e.is in
      let same_limits = limits-same limits l.value names.limits l.is in
      let same_places = same_Some _ _ (sym p.is ∙ places-back places) in
      sym is ∙ (λ i. cert.Farkas (same_energy i) (same_limits i) (same_places i) None)
  cert-same (cert.Farkas energy limits places (Some duals)) d names h =
      let e = needed key.Energy (fraction_of_text most (parts_text energy)) _ d h in
      let l = needed key.Limits (option_and_then if_distinct (each (limit_in most version.Third) (items_of (map limit_data limits)))) _ d e.rest in
      let p = needed key.Places (places_named (place_count places)) _ d l.rest in
      let r = needed key.Reserve (option_map (λ x. Some x) (reserve_duals_in 2 most (reserve_duals_data duals))) _ d p.rest in
      let is = ok_is (cert.Farkas e.value l.value p.value r.value) d r.rest in
      let same_energy = fraction-same most energy e.value e.is in
      let same_limits = limits-same-3 limits l.value names.limits l.is in
      let same_places = same_Some _ _ (sym p.is ∙ places-back places) in
      let same_reserve = part-same (reserve_duals_in 2 most (reserve_duals_data duals)) duals r.value (λ y f. duals-same duals y names.rooms f) r.is in
      sym is ∙ (λ i. cert.Farkas (same_energy i) (same_limits i) (same_places i) (same_reserve i))

  read-same : (c d : Cert Fraction) → NamesFit c → cert_read most (cert_text c) ≡ Ok d → d ≡ c
  unfolding cert_read
  read-same c d names h = cert-same c d names (rw (is_utf8-from_IsUtf8 (cert_text c) (utf8-cert_text c names), read-cert_text c names) at h)

pub law_of_one_reading : LawOfOneReading
law_of_one_reading most c d names h = read-same most c d names h

pub law_of_migrated_texts : LawOfMigratedTexts
law_of_migrated_texts most c d names h = ap cert_text (read-same most c d names h)
