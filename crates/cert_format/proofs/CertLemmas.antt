-- The value of a certificate is in the grammar, and gives the certificate again.
use Rattle.std.specs.Prelude.{◌≡◌, ℕ, ◌<◌, ◌≤◌, ◌^◌, List, [], ◌∷◌, map, Bool, true, false, codes, All, Option, Some, None, IfSome, option_map, Result, Ok, Err, IfOk, IsOk, OnOk, IsUtf8, unsigned_abs}
use Rattle.std.specs.Str.{is_utf8}
use Rattle.std.proofs.Common.{zero, suc, arith, ap, get_or, ◌∙◌, refl, subst}
use Rattle.std.proofs.lemmas.Bool.{lt-ltb, or_from}
use Rattle.std.proofs.lemmas.List.Elements.{All-cons, All-nil}
use Rattle.market_model.specs.Valued.{answer_at, dual_at, farkas_at, room_dual_at}
use Rattle.std.proofs.lemmas.Str.{IsUtf8-from_is_utf8, is_utf8-from_IsUtf8}
use Rattle.fraction_theory.specs.Fraction.{Fraction}
use Rattle.market_data.specs.Scales.{place_count}
use Rattle.market_data.specs.declared.scales.FactorPlaces.{FactorPlaces}
use Rattle.market_data.specs.declared.scales.FactorPlaces.TheVariants.{Six, Nine}
use Rattle.market_model.specs.declared.answered.Answer.{Answer}
use Rattle.market_model.specs.declared.answered.Dual.{Dual}
use Rattle.market_model.specs.declared.answered.Farkas.{Farkas}
use Rattle.market_model.specs.declared.answered.RoomDual.{RoomDual}
use Rattle.json.specs.Tree as tree
use Rattle.serde_json.specs.Data.{Data, Members, no_members, member}
use Rattle.serde_json.specs.Read.{max_depth, of_items, of_json, read}
use Rattle.serde_json.specs.View.{items_of}
use Rattle.serde_json.specs.Written.{has_float, items_have_float, items_outline, members_have_float, members_outline, outline}
use Rattle.serde_json.proofs.Numbers.{number_of-decimal}
use Rattle.serde_json.proofs.OnLiterals.{serde_json_on_literals}
use Rattle.cert_format.specs.declared.certificate.Cert.{Cert}
use Rattle.cert_format.specs.declared.certificate.Cert.TheVariants as cert
use Rattle.cert_format.specs.declared.certificate.ClearedReserve.{ClearedReserve}
use Rattle.cert_format.specs.declared.certificate.Key.TheVariants as key
use Rattle.cert_format.specs.declared.certificate.ReserveDuals.{ReserveDuals}
use Rattle.cert_format.specs.declared.forms.Version.TheVariants as version
use Rattle.cert_format.specs.Certificates.{CertFits, ClearedReserveFits, DualFits, Fits, NamesFit, NumbersFit, ReserveDualsFit, RoomFits, RowFits, RowsAreDistinct, cert_against, cert_at, cert_of, reserve_duals_at, rooms_among}
use Rattle.cert_format.specs.Grammar.{cert_in, cert_read, each, farkas_in, limit_in, optimal_in, places_named}
use Rattle.cert_format.specs.Written.{cert_data, cert_text, cleared_reserve_data, ending, fraction_data, limit_data, reserve_duals_data, with_unit, with_version}
use Rattle.cert_format.proofs.NumberTexts.{float-fractions, flat-fractions, fraction-back, fractions-again, fractions-back, key_utf8, plain-fractions}
use Rattle.cert_format.proofs.ReserveTexts.{UnitsFit, cleared-again, cleared-back, duals-again, duals-back, flat-cleared, flat-duals, float-cleared, float-duals, plain-cleared, plain-duals}
use Rattle.cert_format.proofs.RowLemmas.{names-distinct, not_0}
use Rattle.cert_format.proofs.TextLemmas.{IsPlain, ItemsArePlain, MembersArePlain, read-compact_text, utf8-data, utf8-parts_text}

-- ---- what is written has no floats, and texts in UTF-8
-- the member of a row that stands after the unit's
abbrev up_of : Dual Fraction → Members
up_of d = member (codes "up") (fraction_data d.up) no_members

plain-unit : (unit : ℕ) → unit < 2 ^ 32 → (ms : Members) → MembersArePlain ms → MembersArePlain (with_unit unit ms)
plain-unit zero fits ms plain = plain
plain-unit (suc unit) fits ms plain = rw (not_0 unit) (key_utf8 (codes "unit") refl, omega (arith, fits), plain)

plain-limits : (ds : List (Dual Fraction)) → All (λ d. RowFits d.row) ds → ItemsArePlain (items_of (map limit_data ds))
plain-limits [] h = tt
plain-limits (d ∷ ds) h =
    let row = h 0 d (omega arith) in ((
      (
        key_utf8 (codes "branch") refl,
        omega (arith, row.branch),
        (
          key_utf8 (codes "down") refl,
          utf8-parts_text d.down,
          (
            key_utf8 (codes "outage") refl,
            omega (arith, row.outage),
            plain-unit d.row.unit row.unit (up_of d) (key_utf8 (codes "up") refl, utf8-parts_text d.up, tt),
          ),
        ),
      ),
      plain-limits ds (λ k x lt. h (suc k) x (omega (arith, lt))),
    ))

count_small : (p : FactorPlaces) → place_count p < 2 ^ 64
count_small Six = omega arith
count_small Nine = omega arith

plain-version : (reserve : Option Data) → IfSome reserve IsPlain → MembersArePlain (with_version reserve)
plain-version None h = (key_utf8 (codes "version") refl, omega arith, tt)
plain-version (Some reserve) h = (key_utf8 (codes "reserve") refl, h, (key_utf8 (codes "version") refl, omega arith, tt))

plain-ending : (p : FactorPlaces) (reserve : Option Data) → IfSome reserve IsPlain → MembersArePlain (ending p reserve)
plain-ending p reserve h = (key_utf8 (codes "places") refl, count_small p, plain-version reserve h)

plain-cleared-part : (reserve : Option (ClearedReserve Fraction)) → UnitsFit (rooms_among (option_map (λ r. r.duals) reserve)) → IfSome (option_map cleared_reserve_data reserve) IsPlain
plain-cleared-part None h = tt
plain-cleared-part (Some r) h = plain-cleared r h

plain-duals-part : (reserve : Option (ReserveDuals Fraction)) → UnitsFit (rooms_among reserve) → IfSome (option_map reserve_duals_data reserve) IsPlain
plain-duals-part None h = tt
plain-duals-part (Some d) h = plain-duals d h

pub plain-cert : (c : Cert Fraction) → NamesFit c → IsPlain (cert_data c)
plain-cert (cert.Optimal blocks energy limits places reserve) h = (
  key_utf8 (codes "blocks") refl,
  plain-fractions blocks,
  (
    key_utf8 (codes "energy") refl,
    utf8-parts_text energy,
    (
      key_utf8 (codes "kind") refl,
      key_utf8 (codes "optimal") refl,
      (
        key_utf8 (codes "limits") refl,
        plain-limits limits h.limits,
        plain-ending places (option_map cleared_reserve_data reserve) (plain-cleared-part reserve h.rooms),
      ),
    ),
  ),
)
plain-cert (cert.Farkas energy limits places reserve) h = (
  key_utf8 (codes "energy") refl,
  utf8-parts_text energy,
  (
    key_utf8 (codes "kind") refl,
    key_utf8 (codes "farkas") refl,
    (
      key_utf8 (codes "limits") refl,
      plain-limits limits h.limits,
      plain-ending places (option_map reserve_duals_data reserve) (plain-duals-part reserve h.rooms),
    ),
  ),
)

float-unit : (unit : ℕ) (ms : Members) → members_have_float ms ≡ false → members_have_float (with_unit unit ms) ≡ false
float-unit zero ms h = h
float-unit (suc unit) ms h = rw (not_0 unit) h

float-limits : (ds : List (Dual Fraction)) → items_have_float (items_of (map limit_data ds)) ≡ false
float-limits [] = refl
float-limits (d ∷ ds) = or_from _ _ (float-unit d.row.unit (up_of d) refl) (float-limits ds)

pub no-float : (c : Cert Fraction) → has_float (cert_data c) ≡ false
no-float (cert.Optimal blocks energy limits places None) = rw (float-fractions blocks, float-limits limits) refl
no-float (cert.Optimal blocks energy limits places (Some r)) = rw (float-fractions blocks, float-limits limits, float-cleared r) refl
no-float (cert.Farkas energy limits places None) = rw (float-limits limits) refl
no-float (cert.Farkas energy limits places (Some d)) = rw (float-limits limits, float-duals d) refl

-- ---- nests four deep at most
flat-unit : (unit : ℕ) (ms : Members) → tree.members_depth (members_outline ms) ≤ 0 → tree.members_depth (members_outline (with_unit unit ms)) ≤ 0
flat-unit zero ms h = h
flat-unit (suc unit) ms h = rw (not_0 unit) (omega (arith, h))

flat-limits : (ds : List (Dual Fraction)) → tree.items_depth (items_outline (items_of (map limit_data ds))) ≤ 1
flat-limits [] = omega arith
flat-limits (d ∷ ds) = let h = flat-limits ds in let k = flat-unit d.row.unit (up_of d) (omega arith) in omega (arith, h, k)

flat-cert : (c : Cert Fraction) → tree.depth (outline (cert_data c)) ≤ max_depth
flat-cert (cert.Optimal blocks energy limits places None) = let h = flat-fractions blocks in let k = flat-limits limits in omega (arith, h, k)
flat-cert (cert.Optimal blocks energy limits places (Some r)) = let h = flat-fractions blocks in let k = flat-limits limits in let l = flat-cleared r in omega (arith, h, k, l)
flat-cert (cert.Farkas energy limits places None) = let k = flat-limits limits in omega (arith, k)
flat-cert (cert.Farkas energy limits places (Some d)) = let k = flat-limits limits in let l = flat-duals d in omega (arith, k, l)

-- ---- and is read as the value that was written
-- the duals of a limit by the unit that is lost
module _ (branch outage : ℕ) (up down : Fraction) where
  abbrev pub after_unit : ℕ → Dual Fraction
  after_unit unit = record { row = record { branch = branch; outage = outage; unit = unit }; up = up; down = down }

  unit-again : branch < 2 ^ 32 → outage < 2 ^ 32 → (unit : ℕ) → unit < 2 ^ 32 → of_json (outline (limit_data (after_unit unit))) ≡ Some (limit_data (after_unit unit))
  unfolding serde_json_on_literals
  unit-again b o zero u = rw (number_of-decimal branch (omega (arith, b)), number_of-decimal outage (omega (arith, o))) refl
  unit-again b o (suc unit) u = rw (not_0 unit, number_of-decimal branch (omega (arith, b)), number_of-decimal outage (omega (arith, o)), number_of-decimal (suc unit) (omega (arith, u))) refl

limit-again : (d : Dual Fraction) → RowFits d.row → of_json (outline (limit_data d)) ≡ Some (limit_data d)
limit-again d row = unit-again d.row.branch d.row.outage d.up d.down row.branch row.outage d.row.unit row.unit

limits-again : (ds : List (Dual Fraction)) → All (λ d. RowFits d.row) ds → of_items (items_outline (items_of (map limit_data ds))) ≡ Some (items_of (map limit_data ds))
limits-again [] h = refl
limits-again (d ∷ ds) h = rw (limit-again d (h 0 d (omega arith)), limits-again ds (λ k x lt. h (suc k) x (omega (arith, lt)))) refl

cert-again : (c : Cert Fraction) → NamesFit c → of_json (outline (cert_data c)) ≡ Some (cert_data c)
unfolding serde_json_on_literals
cert-again (cert.Optimal blocks energy limits places None) h =
    rw (fractions-again blocks, limits-again limits h.limits, number_of-decimal (place_count places) (count_small places), number_of-decimal 2 (omega arith)) refl
cert-again (cert.Optimal blocks energy limits places (Some r)) h =
    rw (fractions-again blocks, limits-again limits h.limits, number_of-decimal (place_count places) (count_small places), cleared-again r h.rooms, number_of-decimal 3 (omega arith)) refl
cert-again (cert.Farkas energy limits places None) h = rw (limits-again limits h.limits, number_of-decimal (place_count places) (count_small places), number_of-decimal 2 (omega arith)) refl
cert-again (cert.Farkas energy limits places (Some d)) h =
    rw (limits-again limits h.limits, number_of-decimal (place_count places) (count_small places), duals-again d h.rooms, number_of-decimal 3 (omega arith)) refl

pub read-cert_text : (c : Cert Fraction) → NamesFit c → read (cert_text c) ≡ Some (cert_data c)
unfolding cert_text
read-cert_text c h = read-compact_text (cert_data c) (plain-cert c h) (flat-cert c) (cert-again c h)

pub utf8-cert_text : (c : Cert Fraction) → NamesFit c → IsUtf8 (cert_text c)
unfolding cert_text
utf8-cert_text c h = utf8-data (cert_data c) (plain-cert c h)

pub places-back : (p : FactorPlaces) → places_named (place_count p) ≡ Some p
places-back Six = refl
places-back Nine = refl

module _ (most : ℕ) where
  -- ---- the value is in the grammar
  unit-back : (branch outage : ℕ) (up down : Fraction) → branch < 2 ^ 32 → outage < 2 ^ 32 → Fits most up → Fits most down
      → (unit : ℕ) → unit < 2 ^ 32 → limit_in most version.Second (limit_data (after_unit branch outage up down unit)) ≡ Some (after_unit branch outage up down unit)
  unfolding serde_json_on_literals limit_in
  unit-back branch outage up down b o hu hd zero u = rw (lt-ltb _ _ b, lt-ltb _ _ o, fraction-back most up hu, fraction-back most down hd) refl
  unit-back branch outage up down b o hu hd (suc unit) u = rw (not_0 unit, lt-ltb _ _ b, lt-ltb _ _ o, lt-ltb _ _ u, fraction-back most up hu, fraction-back most down hd, not_0 unit, not_0 unit) refl

  limit-back : (d : Dual Fraction) → DualFits most d → limit_in most version.Second (limit_data d) ≡ Some d
  limit-back d h = unit-back d.row.branch d.row.outage d.up d.down h.row.branch h.row.outage h.up h.down d.row.unit h.row.unit

  limits-back : (ds : List (Dual Fraction)) → All (DualFits most) ds → each (limit_in most version.Second) (items_of (map limit_data ds)) ≡ Some ds
  unfolding each
  limits-back [] h = refl
  limits-back (d ∷ ds) h = rw (limit-back d (h 0 d (omega arith)), limits-back ds (λ k x lt. h (suc k) x (omega (arith, lt)))) refl

  -- limits of the third version are those of the second
  pub one-reader : ◌≡◌ {A = Data → Option (Dual Fraction)} (limit_in most version.Third) (limit_in most version.Second)
  unfolding limit_in
  one-reader = refl

  limits-back-3 : (ds : List (Dual Fraction)) → All (DualFits most) ds → each (limit_in most version.Third) (items_of (map limit_data ds)) ≡ Some ds
  limits-back-3 ds h = rw one-reader (limits-back ds h)

  cert-back : (c : Cert Fraction) → CertFits most c → cert_in most (cert_data c) ≡ Ok c
  unfolding serde_json_on_literals cert_in optimal_in farkas_in
  cert-back (cert.Optimal blocks energy limits places None) h =
      rw (fraction-back most energy h.numbers.1, fractions-back most blocks h.numbers.0, limits-back limits h.numbers.2, names-distinct limits h.distinct, places-back places) refl
  cert-back (cert.Optimal blocks energy limits places (Some r)) h =
      rw (fraction-back most energy h.numbers.1, fractions-back most blocks h.numbers.0, limits-back-3 limits h.numbers.2, names-distinct limits h.distinct, places-back places, cleared-back most r h.numbers.3) refl
  cert-back (cert.Farkas energy limits places None) h =
      rw (fraction-back most energy h.numbers.0, limits-back limits h.numbers.1, names-distinct limits h.distinct, places-back places) refl
  cert-back (cert.Farkas energy limits places (Some d)) h =
      rw (fraction-back most energy h.numbers.0, limits-back-3 limits h.numbers.1, names-distinct limits h.distinct, places-back places, duals-back most d h.numbers.2) refl

  names-fit : (c : Cert Fraction) → CertFits most c → NamesFit c
  names-fit (cert.Optimal blocks energy limits places None) h = record { limits = λ k d lt. (h.numbers.2 k d lt).row; rooms = All-nil (λ d. d.unit < 2 ^ 32) }
  names-fit (cert.Optimal blocks energy limits places (Some r)) h = record { limits = λ k d lt. (h.numbers.2 k d lt).row; rooms = λ k d lt. (h.numbers.3.duals.rooms k d lt).unit }
  names-fit (cert.Farkas energy limits places None) h = record { limits = λ k d lt. (h.numbers.1 k d lt).row; rooms = All-nil (λ d. d.unit < 2 ^ 32) }
  names-fit (cert.Farkas energy limits places (Some d)) h = record { limits = λ k d lt. (h.numbers.1 k d lt).row; rooms = λ k d lt. (h.numbers.2.rooms k d lt).unit }

  pub reads-back : (c : Cert Fraction) → CertFits most c → cert_read most (cert_text c) ≡ Ok c
  unfolding cert_read
  reads-back c h = rw (is_utf8-from_IsUtf8 (cert_text c) (utf8-cert_text c (names-fit c h)), read-cert_text c (names-fit c h)) (cert-back c h)

  -- ---- bytes that are no text, or no JSON
  pub json-fault : (bytes : List ℕ) → (IsUtf8 bytes → read bytes ≡ None) → cert_read most bytes ≡ Err key.Json
  unfolding cert_read
  json-fault bytes h = by (is_utf8 bytes) refl
    where
      by : (b : Bool) → is_utf8 bytes ≡ b → cert_read most bytes ≡ Err key.Json
      by true e = rw (e, h (IsUtf8-from_is_utf8 bytes e)) refl
      by false e = rw e refl

  -- the value that the bytes read as
  pub json-value : (bytes : List ℕ) (d : Data) → IsUtf8 bytes → read bytes ≡ Some d → cert_read most bytes ≡ cert_in most d
  unfolding cert_read
  json-value bytes d text e = rw (is_utf8-from_IsUtf8 bytes text, e) refl

-- ---- what is written of numbers of a type
module _ (less most : ℕ) (small : less ≤ most) where
  part-more : (x : Fraction) → Fits less x → Fits most x
  part-more x h = record { num = omega (arith, h.num, small); den = omega (arith, h.den, small) }

  dual-more : (d : Dual Fraction) → DualFits less d → DualFits most d
  dual-more d h = record { row = h.row; up = part-more d.up h.up; down = part-more d.down h.down }

  room-more : (d : RoomDual Fraction) → RoomFits less d → RoomFits most d
  room-more d h = record { unit = h.unit; price = part-more d.price h.price }

  duals-more : (d : ReserveDuals Fraction) → ReserveDualsFit less d → ReserveDualsFit most d
  duals-more d h = record { price = part-more d.price h.price; rooms = λ k r lt. room-more (get_or d.rooms k r) (h.rooms k r lt) }

  cleared-more : (r : ClearedReserve Fraction) → ClearedReserveFits less r → ClearedReserveFits most r
  cleared-more r h = record { quantities = λ k x lt. part-more (get_or r.quantities k x) (h.quantities k x lt); duals = duals-more r.duals h.duals }

  if-some-more : {A : Type 0} (P Q : A → Type 0) → ((x : A) → P x → Q x) → (o : Option A) → IfSome o P → IfSome o Q
  if-some-more P Q more None h = tt
  if-some-more P Q more (Some x) h = more x h

  pub numbers-more : (c : Cert Fraction) → NumbersFit less c → NumbersFit most c
  numbers-more (cert.Optimal blocks energy limits places reserve) h = (
    λ k x lt. part-more (get_or blocks k x) (h.0 k x lt),
    part-more energy h.1,
    λ k d lt. dual-more (get_or limits k d) (h.2 k d lt),
    if-some-more (ClearedReserveFits less) (ClearedReserveFits most) cleared-more reserve h.3,
  )
  numbers-more (cert.Farkas energy limits places reserve) h = (
    part-more energy h.0,
    λ k d lt. dual-more (get_or limits k d) (h.1 k d lt),
    if-some-more (ReserveDualsFit less) (ReserveDualsFit most) duals-more reserve h.2,
  )

module _ {N : Type 0} (value : N → Fraction) (bound : ℕ) (fits : (x : N) → (unsigned_abs (value x).num ≤ bound) × ((value x).den ≤ bound)) where
  within : (x : N) → Fits bound (value x)
  within x = let h = fits x in record { num = h.0; den = h.1 }

  blocks-fit : (xs : List N) → All (Fits bound) (map value xs)
  blocks-fit [] = All-nil (Fits bound)
  blocks-fit (x ∷ xs) = All-cons (Fits bound) (value x) (map value xs) (within x) (blocks-fit xs)

  limits-fit : (ds : List (Dual N)) → All (λ d. RowFits d.row) ds → All (DualFits bound) (map (dual_at value) ds)
  limits-fit [] h = All-nil (DualFits bound)
  limits-fit (d ∷ ds) h =
      All-cons (DualFits bound) (dual_at value d) (map (dual_at value) ds) (record { row = h 0 d (omega arith); up = within d.up; down = within d.down })
      (limits-fit ds (λ k x lt. h (suc k) x (omega (arith, lt))))

  rooms-fit : (ds : List (RoomDual N)) → UnitsFit ds → All (RoomFits bound) (map (room_dual_at value) ds)
  rooms-fit [] h = All-nil (RoomFits bound)
  rooms-fit (d ∷ ds) h =
      All-cons (RoomFits bound) (room_dual_at value d) (map (room_dual_at value) ds) (record { unit = h 0 d (omega arith); price = within d.price }) (rooms-fit ds (λ k x lt. h (suc k) x (omega (arith, lt))))

  duals-fit : (d : ReserveDuals N) → UnitsFit d.rooms → ReserveDualsFit bound (reserve_duals_at value d)
  duals-fit d h = record { price = within d.price; rooms = rooms-fit d.rooms h }

  pub numbers-fit : (c : Cert N) → NamesFit c → NumbersFit bound (cert_at value c)
  numbers-fit (cert.Optimal blocks energy limits places None) h = (blocks-fit blocks, within energy, limits-fit limits h.limits, tt)
  numbers-fit (cert.Optimal blocks energy limits places (Some r)) h =
      (blocks-fit blocks, within energy, limits-fit limits h.limits, record { quantities = blocks-fit r.quantities; duals = duals-fit r.duals h.rooms })
  numbers-fit (cert.Farkas energy limits places None) h = (within energy, limits-fit limits h.limits, tt)
  numbers-fit (cert.Farkas energy limits places (Some d)) h = (within energy, limits-fit limits h.limits, duals-fit d h.rooms)

  pub written-back : (c : Cert N) (bytes : List ℕ) → NamesFit c → bytes ≡ cert_text (cert_at value c) → RowsAreDistinct (cert_at value c) → cert_read bound bytes ≡ Ok (cert_at value c)
  written-back c bytes h text once = ap (cert_read bound) text ∙ reads-back bound (cert_at value c) (record { numbers = numbers-fit c h; distinct = once })

-- numbers within a bound are within a greater one
pub fits-wider : {N : Type 0} (value : N → Fraction) (less bound : ℕ) → less ≤ bound → ((x : N) → (unsigned_abs (value x).num ≤ less) × ((value x).den ≤ less)) → (x : N) → (unsigned_abs (value x).num ≤ bound) × ((value x).den ≤ bound)
fits-wider value less bound wide fits x =
    let num = (fits x).0 in
    let den = (fits x).1 in
    (omega arith, omega arith)

-- ---- what is written of an outcome
-- the certificate of what a clear came to, with each number as the fraction that it stands for
pub answer-at : {N : Type 0} (value : N → Fraction) (places : FactorPlaces) (listed : Bool) (a : Answer N) → cert_at value (cert_of places listed a) ≡ cert_of places listed (answer_at value a)
answer-at value places true a = refl
answer-at value places false a = refl

pub farkas-at : {N : Type 0} (value : N → Fraction) (places : FactorPlaces) (listed : Bool) (f : Farkas N) → cert_at value (cert_against places listed f) ≡ cert_against places listed (farkas_at value f)
farkas-at value places true f = refl
farkas-at value places false f = refl

-- what holds where one step ended well holds where the next one did, which ends well only then
pub passed_on : {A B E F : Type 0} (r : Result A E) (s : Result B F) (P Q : Type 0) → OnOk r (IsOk s) → OnOk s P → (P → Q) → OnOk r Q
passed_on (Ok a) (Ok b) P Q h k to = to k
passed_on (Ok a) (Err f) P Q h k to = cc h
passed_on (Err e) s P Q h k to = tt

-- what is told of a text that was made of a certificate
pub record IsTold {V E : Type 0} (items : V → List ℕ) (bound : ℕ) (c : Cert Fraction) (r : Result (Option V) E) : Type 0 where
  pub text : IfOk r (λ made. option_map items made ≡ Some (cert_text c))
  pub fits : OnOk r (NumbersFit bound c)
  pub reads_back : (most : ℕ) (d : Cert Fraction) → bound ≤ most → Some c ≡ Some d → RowsAreDistinct d → IfOk r (λ made. option_map (λ v. cert_read most (items v)) made ≡ Some (Ok d))

module _ {V E : Type 0} (items : V → List ℕ) (bound : ℕ) (c : Cert Fraction) (once : RowsAreDistinct c) where
  made_back : (r : Result (Option V) E) → IfOk r (λ made. option_map items made ≡ Some (cert_text c)) → OnOk r (NumbersFit bound c) → IfOk r (λ made. option_map (λ v. cert_read bound (items v)) made ≡ Some (Ok c))
  made_back (Ok (Some v)) text fits =
      let is : items v ≡ cert_text c = cc text in
      ap Some (ap (cert_read bound) is ∙ reads-back bound c (record { numbers = fits; distinct = once }))
  made_back (Ok None) text fits = cc text
  made_back (Err e) text fits = tt

  -- the certificate that there is
  pub cert_back : (d : Cert Fraction) → Some d ≡ Some c → (r : Result (Option V) E) → IfOk r (λ made. option_map items made ≡ Some (cert_text d)) → OnOk r (NumbersFit bound d)
      → IfOk r (λ made. option_map (λ v. cert_read bound (items v)) made ≡ Some (Ok c))
  cert_back d is r text fits =
      let same : d ≡ c = cc is in
      made_back r (subst (λ (e : Cert Fraction). IfOk r (λ made. option_map items made ≡ Some (cert_text e))) same text) (subst (λ (e : Cert Fraction). OnOk r (NumbersFit bound e)) same fits)

module _ {N : Type 0} (value : N → Fraction) (bound : ℕ) (fits : (x : N) → (unsigned_abs (value x).num ≤ bound) × ((value x).den ≤ bound)) {V E F : Type 0} (items : V → List ℕ)
    (c : Cert N) (d : Cert Fraction) (same : cert_at value c ≡ d) (written : Result V F) (r : Result (Option V) E) where
  pub told-back : OnOk written (NamesFit c) → OnOk r (IsOk written) → IfOk r (λ made. option_map items made ≡ Some (cert_text (cert_at value c))) → IsTold items bound d r
  told-back names made text =
      let fit = passed_on r written _ (NumbersFit bound (cert_at value c)) made names (λ n. numbers-fit value bound fits c n) in
      subst (λ (e : Cert Fraction). IsTold items bound e r) same (record {
        text = text;
        fits = fit;
        reads_back = λ most k wide is once. cert_back items most k once (cert_at value c) is r text
            (passed_on r written _ (NumbersFit most (cert_at value c)) made names (λ n. numbers-fit value most (fits-wider value bound most wide fits) c n));
      })
