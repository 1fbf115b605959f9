-- The certificate that a text stands for, or the first part of it that is not in the grammar.
use Rattle.std.specs.Prelude.{◌≡◌, ℕ, ◌^◌, ◌==◌, ◌&&◌, Bool, true, false, not, nat_lt, List, [], ◌∷◌, codes, Option, Some, None, option_and_then, option_map, is_none, is_some, Result, Ok, Err, if◌then◌else◌}
use Rattle.std.specs.List.{list_any}
use Rattle.std.specs.Str.{bytes_eq, is_utf8}
use Rattle.fraction_theory.specs.Fraction.{Fraction}
use Rattle.market_data.specs.declared.scales.FactorPlaces.{FactorPlaces}
use Rattle.market_data.specs.declared.scales.FactorPlaces.TheVariants as places
use Rattle.market_model.specs.declared.answered.Dual.{Dual}
use Rattle.market_model.specs.declared.answered.RoomDual.{RoomDual}
use Rattle.market_model.specs.declared.answered.RowId.{RowId}
use Rattle.market_model.specs.Optimality.{same_id}
use Rattle.serde_json.specs.Data.{Data, Items, no_items, item}
use Rattle.serde_json.specs.Events.{members_len}
use Rattle.serde_json.specs.Find.{as_array, as_number, as_object, as_str, as_u64, get}
use Rattle.serde_json.specs.Read.{read}
use Rattle.cert_format.specs.declared.certificate.Cert.{Cert}
use Rattle.cert_format.specs.declared.certificate.Cert.TheVariants as cert
use Rattle.cert_format.specs.declared.certificate.ClearedReserve.{ClearedReserve}
use Rattle.cert_format.specs.declared.certificate.Key.{Key}
use Rattle.cert_format.specs.declared.certificate.Key.TheVariants as key
use Rattle.cert_format.specs.declared.certificate.ReserveDuals.{ReserveDuals}
use Rattle.cert_format.specs.declared.certificate.CertFault.{CertFault}
use Rattle.cert_format.specs.declared.certificate.CertFault.TheVariants as fault
use Rattle.cert_format.specs.declared.forms.Kind.{Kind}
use Rattle.cert_format.specs.declared.forms.Kind.TheVariants as kind
use Rattle.cert_format.specs.declared.forms.Version.{Version}
use Rattle.cert_format.specs.declared.forms.Version.TheVariants as version
use Rattle.cert_format.specs.FractionTexts.{fraction_of_text}

-- ---- the members of an object
-- how many they are; each name is there once
abbrev pub size_of : Data → Option ℕ
size_of d = option_map members_len (as_object d)

-- whether there is a number, and it is this one
abbrev pub is_number : ℕ → Option ℕ → Bool
is_number m None = false
is_number m (Some n) = n == m

-- just so many members: where all names of the grammar are there, no other is
abbrev pub has_size : ℕ → Data → Bool
has_size n d = is_number n (size_of d)

-- a whole number, written with digits alone
abbrev pub number_at : List ℕ → Data → Option ℕ
number_at name d = option_and_then as_u64 (option_and_then as_number (get name d))

abbrev pub text_at : List ℕ → Data → Option (List ℕ)
text_at name d = option_and_then as_str (get name d)

-- a fraction whose parts are at most `most`, as in all that follows
abbrev pub fraction_in : ℕ → Data → Option Fraction
fraction_in most d = option_and_then (fraction_of_text most) (as_str d)

abbrev pub fraction_at : ℕ → List ℕ → Data → Option Fraction
fraction_at most name d = option_and_then (fraction_in most) (get name d)

-- each item by one reader
unfoldable pub each : {A : Type 0} → (Data → Option A) → Items → Option (List A)
each read no_items = Some []
each read (item d ds) = option_and_then (λ x. option_and_then (λ xs. Some (x ∷ xs)) (each read ds)) (read d)

abbrev pub fractions_at : ℕ → List ℕ → Data → Option (List Fraction)
fractions_at most name d = option_and_then (each (fraction_in most)) (option_and_then as_array (get name d))

-- ---- limits
abbrev pub in_32 : Option ℕ → Option ℕ
in_32 None = None
in_32 (Some n) = if nat_lt n (2 ^ 32) then Some n else None

-- a number that is not 0
abbrev pub above_0 : Option ℕ → Option ℕ
above_0 None = None
above_0 (Some n) = if n == 0 then None else Some n

-- the unit that is lost: 0 where there is no such member, and never 0 where there is one
abbrev pub unit_member : Data → Option ℕ
unit_member d = if is_none (get (codes "unit") d) then Some 0 else above_0 (in_32 (number_at (codes "unit") d))

-- and in a text of any version: the first names none, so that a member for it is one too many
abbrev pub unit_in : Version → Data → Option ℕ
unit_in version.First d = Some 0
unit_in version.Second d = unit_member d
unit_in version.Third d = unit_member d

-- how many members the duals of a row have: the unit's is there where it is not 0
abbrev pub members_with : ℕ → ℕ
members_with unit = if unit == 0 then 4 else 5

-- the duals of a row: branch, outage, unit where it is not 0, up and down, and nothing else
unfoldable pub limit_in : ℕ → Version → Data → Option (Dual Fraction)
limit_in most version d =
    option_and_then (λ branch.
    option_and_then (λ outage.
    option_and_then (λ unit.
    option_and_then (λ up.
    option_and_then (λ down.
    if has_size (members_with unit) d then Some (record { row = record { branch = branch; outage = outage; unit = unit }; up = up; down = down }) else None)
    (fraction_at most (codes "down") d))
    (fraction_at most (codes "up") d))
    (unit_in version d))
    (in_32 (number_at (codes "outage") d)))
    (in_32 (number_at (codes "branch") d))

-- whether a dual is of a row
abbrev pub is_of : RowId → Dual Fraction → Bool
is_of row d = same_id row d.row

-- no row is named twice; a law says that this is so
abbrev pub distinct : List (Dual Fraction) → Bool
distinct [] = true
distinct (d ∷ ds) = not (list_any (is_of d.row) ds) && distinct ds

abbrev pub if_distinct : List (Dual Fraction) → Option (List (Dual Fraction))
if_distinct ds = if distinct ds then Some ds else None

abbrev pub limits_in : ℕ → Version → Data → Option (List (Dual Fraction))
limits_in most version d = option_and_then if_distinct (option_and_then (each (limit_in most version)) (option_and_then as_array (get (codes "limits") d)))

-- ---- reserve
-- the price of a unit's room: dual and unit, and nothing else
unfoldable pub room_dual_in : ℕ → Data → Option (RoomDual Fraction)
room_dual_in most d =
    option_and_then (λ price.
    option_and_then (λ unit.
    if has_size 2 d then Some (record { unit = unit; price = price }) else None)
    (in_32 (number_at (codes "unit") d)))
    (fraction_at most (codes "dual") d)

abbrev pub rooms_at : ℕ → Data → Option (List (RoomDual Fraction))
rooms_at most d = option_and_then (each (room_dual_in most)) (option_and_then as_array (get (codes "units") d))

-- the prices of reserve and of rooms, in an object of so many members
unfoldable pub reserve_duals_in : ℕ → ℕ → Data → Option (ReserveDuals Fraction)
reserve_duals_in size most d =
    option_and_then (λ price.
    option_and_then (λ rooms.
    if has_size size d then Some (record { price = price; rooms = rooms }) else None)
    (rooms_at most d))
    (fraction_at most (codes "price") d)

-- and what is accepted of each offer beside
unfoldable pub cleared_reserve_in : ℕ → Data → Option (ClearedReserve Fraction)
cleared_reserve_in most d =
    option_and_then (λ quantities.
    option_and_then (λ duals. Some (record { quantities = quantities; duals = duals }))
    (reserve_duals_in 3 most d))
    (fractions_at most (codes "quantities") d)

-- ---- the parts of a certificate
abbrev pub kind_named : List ℕ → Option Kind
kind_named text = if bytes_eq text (codes "optimal") then Some kind.Optimal else if bytes_eq text (codes "farkas") then Some kind.Farkas else None

abbrev pub kind_in : Data → Option Kind
kind_in d = option_and_then kind_named (text_at (codes "kind") d)

-- ---- versions, and what each has
abbrev pub version_of : ℕ → Option Version
version_of n = if n == 1 then Some version.First else if n == 2 then Some version.Second else if n == 3 then Some version.Third else None

abbrev pub version_in : Data → Option Version
version_in d = option_and_then version_of (number_at (codes "version") d)

abbrev pub places_named : ℕ → Option FactorPlaces
places_named n = if n == 6 then Some places.Six else if n == 9 then Some places.Nine else None

-- how many places the factors of the market had: six in the first version, which has no member for them
abbrev pub places_in : Version → Data → Option FactorPlaces
places_in version.First d = Some places.Six
places_in version.Second d = option_and_then places_named (number_at (codes "places") d)
places_in version.Third d = option_and_then places_named (number_at (codes "places") d)

-- the part on reserve, by a reader of it: the first two versions have none, and the third must have one
abbrev pub reserve_in : {A : Type 0} → (Data → Option A) → Version → Data → Option (Option A)
reserve_in read version.First d = Some None
reserve_in read version.Second d = Some None
reserve_in read version.Third d = option_map (λ r. Some r) (option_and_then read (get (codes "reserve") d))

-- how many members a certificate has: each version has one more
abbrev pub member_count : Version → Kind → ℕ
member_count version.First kind.Optimal = 5
member_count version.First kind.Farkas = 4
member_count version.Second kind.Optimal = 6
member_count version.Second kind.Farkas = 5
member_count version.Third kind.Optimal = 7
member_count version.Third kind.Farkas = 6

-- ---- certificates
-- a part that must be in the grammar, or its key
abbrev pub need : {A B : Type 0} → Key → Option A → (A → Result B Key) → Result B Key
need k None f = Err k
need k (Some x) f = f x

abbrev pub check : {B : Type 0} → Key → Bool → Result B Key → Result B Key
check k test r = if test then r else Err k

-- the rest of an optimal certificate, and of one that shows that no dispatch is feasible, which has no blocks
unfoldable pub optimal_in : ℕ → Version → Fraction → Data → Result (Cert Fraction) Key
optimal_in most version energy d =
    need key.Blocks (fractions_at most (codes "blocks") d) (λ blocks.
    need key.Limits (limits_in most version d) (λ limits.
    need key.Places (places_in version d) (λ places.
    need key.Reserve (reserve_in (cleared_reserve_in most) version d) (λ reserve.
    check key.Extra (has_size (member_count version kind.Optimal) d) (Ok (cert.Optimal blocks energy limits places reserve))))))

unfoldable pub farkas_in : ℕ → Version → Fraction → Data → Result (Cert Fraction) Key
farkas_in most version energy d =
    check key.Blocks (is_none (get (codes "blocks") d)) (
    need key.Limits (limits_in most version d) (λ limits.
    need key.Places (places_in version d) (λ places.
    need key.Reserve (reserve_in (reserve_duals_in 2 most) version d) (λ reserve.
    check key.Extra (has_size (member_count version kind.Farkas) d) (Ok (cert.Farkas energy limits places reserve))))))

abbrev pub of_kind : ℕ → Version → Fraction → Data → Kind → Result (Cert Fraction) Key
of_kind most version energy d kind.Optimal = optimal_in most version energy d
of_kind most version energy d kind.Farkas = farkas_in most version energy d

-- the certificate that a value stands for, or the first part that is not in the grammar
unfoldable pub cert_in : ℕ → Data → Result (Cert Fraction) Key
cert_in most d =
    check key.Json (is_some (as_object d)) (
    need key.Version (version_in d) (λ version.
    need key.Kind (kind_in d) (λ kind.
    need key.Energy (fraction_at most (codes "energy") d) (λ energy.
    of_kind most version energy d kind))))

-- the value of a text that is JSON in UTF-8
abbrev pub json_of : List ℕ → Option Data
json_of bytes = if is_utf8 bytes then read bytes else None

-- the certificate that the bytes stand for, or the first part that is not in the grammar
unfoldable pub cert_read : ℕ → List ℕ → Result (Cert Fraction) Key
cert_read most bytes = need key.Json (json_of bytes) (cert_in most)

-- ---- what a reader answers
-- what was read, seen by `seen`, is what the grammar gives, unless memory was refused
abbrev pub Gives : {A B : Type 0} → (A → B) → Result A CertFault → Result B Key → Type 0
Gives seen (Ok x) meant = meant ≡ Ok (seen x)
Gives seen (Err (fault.Key k)) meant = meant ≡ Err k
Gives seen (Err fault.Memory) meant = Unit {0}
