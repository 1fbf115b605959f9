-- What is read fits.
use Rattle.std.specs.Prelude.{◌≡◌, ℕ, ◌<◌, ◌^◌, List, [], ◌∷◌, Bool, true, false, codes, nat_lt, All, Option, Some, None, IfSome, Result, Ok, option_and_then, option_map, is_some, is_none, if◌then◌else◌}
use Rattle.std.proofs.Common.{arith, refl, subst, zero, suc}
use Rattle.std.proofs.lemmas.Bool.{ltb-true}
use Rattle.std.proofs.lemmas.List.Elements.{All-cons, All-nil}
use Rattle.std.proofs.lemmas.Option.{cond_some, option_and_then_some, same_Some}
use Rattle.fraction_theory.specs.Fraction.{Fraction}
use Rattle.market_model.specs.declared.answered.Dual.{Dual}
use Rattle.market_model.specs.declared.answered.RoomDual.{RoomDual}
use Rattle.serde_json.specs.Data.{Data, Items, no_items, item}
use Rattle.serde_json.specs.Find.{as_array, as_object, as_str, get}
use Rattle.cert_format.specs.declared.certificate.Cert.{Cert}
use Rattle.cert_format.specs.declared.certificate.Cert.TheVariants as cert
use Rattle.cert_format.specs.declared.certificate.ClearedReserve.{ClearedReserve}
use Rattle.cert_format.specs.declared.certificate.Key.{Key}
use Rattle.cert_format.specs.declared.certificate.Key.TheVariants as key
use Rattle.cert_format.specs.declared.certificate.ReserveDuals.{ReserveDuals}
use Rattle.cert_format.specs.declared.forms.Kind.{Kind}
use Rattle.cert_format.specs.declared.forms.Kind.TheVariants as kind
use Rattle.cert_format.specs.declared.forms.Version.{Version}
use Rattle.cert_format.specs.declared.forms.Version.TheVariants as version
use Rattle.cert_format.specs.Certificates.{CertFits, ClearedReserveFits, DualFits, Fits, NamesNoRowTwice, ReserveDualsFit, RoomFits, RowsAreDistinct}
use Rattle.cert_format.specs.FractionTexts.{fraction_of_text}
use Rattle.cert_format.specs.Grammar.{above_0, cert_in, cert_read, check, cleared_reserve_in, distinct, each, farkas_in, fraction_at, fraction_in, fractions_at, has_size, if_distinct, in_32, json_of, kind_in, limit_in, limits_in, member_count, members_with, need, number_at, of_kind, optimal_in, places_in, reserve_duals_in, reserve_in, room_dual_in, rooms_at, unit_member, unit_in, version_in}
use Rattle.cert_format.specs.Laws.{LawOfMigration}
use Rattle.cert_format.proofs.CertLemmas.{reads-back}
use Rattle.cert_format.proofs.FractionLemmas.{fraction_of_text-spells}
use Rattle.cert_format.proofs.RowLemmas.{distinct-names, not_0}

-- ---- parts that are there
pub record Had {A B : Type 0} (o : Option A) (f : A → Result B Key) (y : B) : Type 0 where
  pub value : A
  pub is : o ≡ Some value
  pub rest : f value ≡ Ok y

pub needed : {A B : Type 0} (k : Key) (o : Option A) (f : A → Result B Key) (y : B) → need k o f ≡ Ok y → Had o f y
needed k None f y h = cc
needed k (Some x) f y h = record { value = x; is = refl; rest = h }

checked : {B : Type 0} (k : Key) (b : Bool) (r : Result B Key) (y : B) → check k b r ≡ Ok y → r ≡ Ok y
checked k true r y h = h
checked k false r y h = cc

pub ok_is : (x y : Cert Fraction) → ◌≡◌ {A = Result (Cert Fraction) Key} (Ok x) (Ok y) → x ≡ y
ok_is x y h = cc

-- ---- numbers
fraction_in-fits : (most : ℕ) (d : Data) (x : Fraction) → fraction_in most d ≡ Some x → Fits most x
fraction_in-fits most d x h = option_and_then_some (fraction_of_text most) (as_str d) x h (λ t e f. (fraction_of_text-spells most t x f).fits)

fraction_at-fits : (most : ℕ) (name : List ℕ) (d : Data) (x : Fraction) → fraction_at most name d ≡ Some x → Fits most x
fraction_at-fits most name d x h = option_and_then_some (fraction_in most) (get name d) x h (λ v e f. fraction_in-fits most v x f)

in_32-fits : (o : Option ℕ) (n : ℕ) → in_32 o ≡ Some n → n < 2 ^ 32
in_32-fits None n h = cc
in_32-fits (Some m) n h = let p = cond_some (nat_lt m (2 ^ 32)) m n h in subst (λ k. k < 2 ^ 32) p.1 (ltb-true _ _ p.0)

above_0-fits : (o : Option ℕ) (n : ℕ) → above_0 o ≡ Some n → ((m : ℕ) → o ≡ Some m → m < 2 ^ 32) → n < 2 ^ 32
above_0-fits None n h fits = cc
above_0-fits (Some zero) n h fits = cc
above_0-fits (Some (suc m)) n h fits = fits n (rw (not_0 m) at h)

unit_member-fits : (d : Data) (n : ℕ) → unit_member d ≡ Some n → n < 2 ^ 32
unit_member-fits d n h = by (is_none (get (codes "unit") d)) h
  where
    by : (none : Bool) → (if none then Some 0 else above_0 (in_32 (number_at (codes "unit") d))) ≡ Some n → n < 2 ^ 32
    by true is = let here : 0 ≡ n = cc in omega (arith, here)
    by false is = above_0-fits (in_32 (number_at (codes "unit") d)) n is (λ m. in_32-fits (number_at (codes "unit") d) m)

unit_in-fits : (version : Version) (d : Data) (n : ℕ) → unit_in version d ≡ Some n → n < 2 ^ 32
unit_in-fits version.First d n h = let here : 0 ≡ n = cc in omega (arith, here)
unit_in-fits version.Second d n h = unit_member-fits d n h
unit_in-fits version.Third d n h = unit_member-fits d n h

module _ (most : ℕ) where
  limit_in-fits : (version : Version) (d : Data) (x : Dual Fraction) → limit_in most version d ≡ Some x → DualFits most x
  unfolding limit_in
  limit_in-fits version d x h =
      option_and_then_some _ (in_32 (number_at (codes "branch") d)) x h (λ branch e1 h1.
      option_and_then_some _ (in_32 (number_at (codes "outage") d)) x h1 (λ outage e2 h2.
      option_and_then_some _ (unit_in version d) x h2 (λ unit e3 h3.
      option_and_then_some _ (fraction_at most (codes "up") d) x h3 (λ up e4 h4.
      option_and_then_some _ (fraction_at most (codes "down") d) x h4 (λ down e5 h5.
      subst (DualFits most) (cond_some (has_size (members_with unit) d) (record { row = record { branch = branch; outage = outage; unit = unit }; up = up; down = down }) x h5).1 (record {
        row = record {
          branch = in_32-fits (number_at (codes "branch") d) branch e1;
          outage = in_32-fits (number_at (codes "outage") d) outage e2;
          unit = unit_in-fits version d unit e3;
        };
        up = fraction_at-fits most (codes "up") d up e4;
        down = fraction_at-fits most (codes "down") d down e5;
      }))))))

  -- ---- lists
  each-all : {A : Type 0} (P : A → Type 0) (read : Data → Option A) → ((d : Data) (x : A) → read d ≡ Some x → P x) → (ds : Items) (xs : List A) → each read ds ≡ Some xs → All P xs
  unfolding each
  each-all P read reads no_items [] h = All-nil P
  each-all P read reads no_items (x ∷ xs) h = cc
  each-all P read reads (item d ds) xs h =
      option_and_then_some _ (read d) xs h (λ x e1 h1.
      option_and_then_some _ (each read ds) xs h1 (λ ys e2 h2.
      let is : x ∷ ys ≡ xs = cc in
      subst (All P) is (All-cons P x ys (reads d x e1) (each-all P read reads ds ys e2))))

  fractions_at-fit : (name : List ℕ) (d : Data) (xs : List Fraction) → fractions_at most name d ≡ Some xs → All (Fits most) xs
  fractions_at-fit name d xs h = option_and_then_some (each (fraction_in most)) (option_and_then as_array (get name d)) xs h (λ ds e f. each-all (Fits most) (fraction_in most) (fraction_in-fits most) ds xs f)

  limits_in-fit : (version : Version) (d : Data) (xs : List (Dual Fraction)) → limits_in most version d ≡ Some xs → All (DualFits most) xs × NamesNoRowTwice xs
  limits_in-fit version d xs h =
      option_and_then_some if_distinct (option_and_then (each (limit_in most version)) (option_and_then as_array (get (codes "limits") d))) xs h (λ ys e1 h1.
      let p = cond_some (distinct ys) ys xs h1 in
      option_and_then_some (each (limit_in most version)) (option_and_then as_array (get (codes "limits") d)) ys e1 (λ ds e2 h2.
      (subst (All (DualFits most)) p.1 (each-all (DualFits most) (limit_in most version) (limit_in-fits version) ds ys h2), subst NamesNoRowTwice p.1 (distinct-names ys p.0))))

  -- ---- reserve
  room_dual_in-fits : (d : Data) (x : RoomDual Fraction) → room_dual_in most d ≡ Some x → RoomFits most x
  unfolding room_dual_in
  room_dual_in-fits d x h =
      option_and_then_some _ (fraction_at most (codes "dual") d) x h (λ price e1 h1.
      option_and_then_some _ (in_32 (number_at (codes "unit") d)) x h1 (λ unit e2 h2.
      subst (RoomFits most) (cond_some (has_size 2 d) (record { unit = unit; price = price }) x h2).1 (record {
        unit = in_32-fits (number_at (codes "unit") d) unit e2;
        price = fraction_at-fits most (codes "dual") d price e1;
      })))

  rooms_at-fit : (d : Data) (xs : List (RoomDual Fraction)) → rooms_at most d ≡ Some xs → All (RoomFits most) xs
  rooms_at-fit d xs h = option_and_then_some (each (room_dual_in most)) (option_and_then as_array (get (codes "units") d)) xs h (λ ds e f. each-all (RoomFits most) (room_dual_in most) room_dual_in-fits ds xs f)

  duals_in-fit : (size : ℕ) (d : Data) (x : ReserveDuals Fraction) → reserve_duals_in size most d ≡ Some x → ReserveDualsFit most x
  unfolding reserve_duals_in
  duals_in-fit size d x h =
      option_and_then_some _ (fraction_at most (codes "price") d) x h (λ price e1 h1.
      option_and_then_some _ (rooms_at most d) x h1 (λ rooms e2 h2.
      subst (ReserveDualsFit most) (cond_some (has_size size d) (record { price = price; rooms = rooms }) x h2).1 (record {
        price = fraction_at-fits most (codes "price") d price e1;
        rooms = rooms_at-fit d rooms e2;
      })))

  cleared_in-fits : (d : Data) (x : ClearedReserve Fraction) → cleared_reserve_in most d ≡ Some x → ClearedReserveFits most x
  unfolding cleared_reserve_in
  cleared_in-fits d x h =
      option_and_then_some _ (fractions_at most (codes "quantities") d) x h (λ quantities e1 h1.
      option_and_then_some _ (reserve_duals_in 3 most d) x h1 (λ duals e2 h2.
      subst (ClearedReserveFits most) (same_Some _ _ h2) (record {
        quantities = fractions_at-fit (codes "quantities") d quantities e1;
        duals = duals_in-fit 3 d duals e2;
      })))

  reserve_in-fits : {A : Type 0} (P : A → Type 0) (read : Data → Option A) → ((d : Data) (x : A) → read d ≡ Some x → P x) → (version : Version) (d : Data) (o : Option A) → reserve_in read version d ≡ Some o → IfSome o P
  reserve_in-fits P read reads version.First d None h = tt
  reserve_in-fits P read reads version.First d (Some x) h = cc
  reserve_in-fits P read reads version.Second d None h = tt
  reserve_in-fits P read reads version.Second d (Some x) h = cc
  reserve_in-fits {A} P read reads version.Third d o h = by (option_and_then read (get (codes "reserve") d)) refl h
    where
      by : (found : Option A) → option_and_then read (get (codes "reserve") d) ≡ found → option_map (λ r. Some r) found ≡ Some o → IfSome o P
      by None e is = cc
      by (Some x) e is = subst (λ p. IfSome p P) (same_Some _ _ is) (option_and_then_some read (get (codes "reserve") d) x e (λ v f g. reads v x g))

  -- ---- certificates
  optimal_in-fits : (version : Version) (energy : Fraction) (d : Data) (c : Cert Fraction) → Fits most energy → optimal_in most version energy d ≡ Ok c → CertFits most c
  unfolding optimal_in
  optimal_in-fits version energy d c fits h =
      let blocks = needed key.Blocks (fractions_at most (codes "blocks") d) _ c h in
      let limits = needed key.Limits (limits_in most version d) _ c blocks.rest in
      let places = needed key.Places (places_in version d) _ c limits.rest in
      let reserve = needed key.Reserve (reserve_in (cleared_reserve_in most) version d) _ c places.rest in
      let it = cert.Optimal blocks.value energy limits.value places.value reserve.value in
      let is : it ≡ c = ok_is it c (checked key.Extra (has_size (member_count version kind.Optimal) d) (Ok it) c reserve.rest) in
      let fit = limits_in-fit version d limits.value limits.is in
      let kept = reserve_in-fits (ClearedReserveFits most) (cleared_reserve_in most) cleared_in-fits version d reserve.value reserve.is in
      subst (CertFits most) is (record { numbers = (fractions_at-fit (codes "blocks") d blocks.value blocks.is, fits, fit.0, kept); distinct = fit.1 })

  farkas_in-fits : (version : Version) (energy : Fraction) (d : Data) (c : Cert Fraction) → Fits most energy → farkas_in most version energy d ≡ Ok c → CertFits most c
  unfolding farkas_in
  farkas_in-fits version energy d c fits h =
      let limits = needed key.Limits (limits_in most version d) _ c (checked key.Blocks (is_none (get (codes "blocks") d)) _ c h) in
      let places = needed key.Places (places_in version d) _ c limits.rest in
      let reserve = needed key.Reserve (reserve_in (reserve_duals_in 2 most) version d) _ c places.rest in
      let it = cert.Farkas energy limits.value places.value reserve.value in
      let is : it ≡ c = ok_is it c (checked key.Extra (has_size (member_count version kind.Farkas) d) (Ok it) c reserve.rest) in
      let fit = limits_in-fit version d limits.value limits.is in
      let kept = reserve_in-fits (ReserveDualsFit most) (reserve_duals_in 2 most) (duals_in-fit 2) version d reserve.value reserve.is in
      subst (CertFits most) is (record { numbers = (fits, fit.0, kept); distinct = fit.1 })

  of_kind-fits : (version : Version) (energy : Fraction) (d : Data) (k : Kind) (c : Cert Fraction) → Fits most energy → of_kind most version energy d k ≡ Ok c → CertFits most c
  of_kind-fits version energy d kind.Optimal c fits h = optimal_in-fits version energy d c fits h
  of_kind-fits version energy d kind.Farkas c fits h = farkas_in-fits version energy d c fits h

  cert_in-fits : (d : Data) (c : Cert Fraction) → cert_in most d ≡ Ok c → CertFits most c
  unfolding cert_in
  cert_in-fits d c h =
      let version = needed key.Version (version_in d) _ c (checked key.Json (is_some (as_object d)) _ c h) in
      let kind = needed key.Kind (kind_in d) _ c version.rest in
      let energy = needed key.Energy (fraction_at most (codes "energy") d) _ c kind.rest in
      of_kind-fits version.value energy.value d kind.value c (fraction_at-fits most (codes "energy") d energy.value energy.is) energy.rest

  pub cert_read-fits : (bytes : List ℕ) (c : Cert Fraction) → cert_read most bytes ≡ Ok c → CertFits most c
  unfolding cert_read
  cert_read-fits bytes c h = let value = needed key.Json (json_of bytes) (cert_in most) c h in cert_in-fits value.value c value.rest

  -- so no row is named twice
  pub cert_read-distinct : (bytes : List ℕ) (c : Cert Fraction) → cert_read most bytes ≡ Ok c → RowsAreDistinct c
  cert_read-distinct bytes c h = (cert_read-fits bytes c h).distinct

-- ---- what is written of what was read
pub law_of_migration : LawOfMigration
law_of_migration most bytes c h = reads-back most c (cert_read-fits most bytes c h)
