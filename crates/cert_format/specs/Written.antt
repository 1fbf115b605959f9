-- The text of a certificate: compact JSON, the members in the order of their names. It is of the third version where there is reserve, and
-- else of the second.
use Rattle.std.specs.Prelude.{ℕ, ◌==◌, Bool, if◌then◌else◌, List, map, codes, Option, Some, None, option_map}
use Rattle.fraction_theory.specs.Fraction.{Fraction}
use Rattle.exact_fraction.specs.Written.{parts_text}
use Rattle.market_data.specs.Scales.{place_count}
use Rattle.market_data.specs.declared.scales.FactorPlaces.{FactorPlaces}
use Rattle.market_model.specs.declared.answered.Dual.{Dual}
use Rattle.market_model.specs.declared.answered.Outcome.{Outcome}
use Rattle.market_model.specs.declared.answered.RoomDual.{RoomDual}
use Rattle.serde_json.specs.Data.{Data, Members, number, string, array, object, no_members, member, unsigned}
use Rattle.serde_json.specs.View.{items_of}
use Rattle.serde_json.specs.Written.{compact_text}
use Rattle.cert_format.specs.declared.certificate.Cert.{Cert}
use Rattle.cert_format.specs.declared.certificate.Cert.TheVariants as cert
use Rattle.cert_format.specs.declared.certificate.ClearedReserve.{ClearedReserve}
use Rattle.cert_format.specs.declared.certificate.ReserveDuals.{ReserveDuals}
use Rattle.cert_format.specs.Certificates.{cert_of_outcome}

-- a fraction is the text `num/den` in lowest terms
abbrev pub fraction_data : Fraction → Data
fraction_data x = string (parts_text x)

-- a member for the unit, where it is not 0
abbrev pub with_unit : ℕ → Members → Members
with_unit unit members = if unit == 0 then members else member (codes "unit") (number (unsigned unit)) members

-- the duals of a row
abbrev pub limit_data : Dual Fraction → Data
limit_data d = object
    (member (codes "branch") (number (unsigned d.row.branch))
    (member (codes "down") (fraction_data d.down)
    (member (codes "outage") (number (unsigned d.row.outage))
    (with_unit d.row.unit (member (codes "up") (fraction_data d.up) no_members)))))

abbrev pub fractions_data : List Fraction → Data
fractions_data xs = array (items_of (map fraction_data xs))

abbrev pub limits_data : List (Dual Fraction) → Data
limits_data limits = array (items_of (map limit_data limits))

-- ---- reserve
-- the price of a unit's room
abbrev pub room_data : RoomDual Fraction → Data
room_data d = object (member (codes "dual") (fraction_data d.price) (member (codes "unit") (number (unsigned d.unit)) no_members))

abbrev pub rooms_data : List (RoomDual Fraction) → Data
rooms_data rooms = array (items_of (map room_data rooms))

abbrev pub reserve_duals_data : ReserveDuals Fraction → Data
reserve_duals_data d = object (member (codes "price") (fraction_data d.price) (member (codes "units") (rooms_data d.rooms) no_members))

abbrev pub cleared_reserve_data : ClearedReserve Fraction → Data
cleared_reserve_data r = object
    (member (codes "price") (fraction_data r.duals.price)
    (member (codes "quantities") (fractions_data r.quantities)
    (member (codes "units") (rooms_data r.duals.rooms) no_members)))

-- ---- certificates
-- the last members: reserve where there is any, and the version
abbrev pub with_version : Option Data → Members
with_version None = member (codes "version") (number (unsigned 2)) no_members
with_version (Some reserve) = member (codes "reserve") reserve (member (codes "version") (number (unsigned 3)) no_members)

-- those behind the limits: before these, how many places factors had
abbrev pub ending : FactorPlaces → Option Data → Members
ending places reserve = member (codes "places") (number (unsigned (place_count places))) (with_version reserve)

-- a dispatch with the prices that support it, and duals that show that none is feasible
abbrev pub optimal_data : List Fraction → Fraction → List (Dual Fraction) → FactorPlaces → Option Data → Data
optimal_data blocks energy limits places reserve = object
    (member (codes "blocks") (fractions_data blocks)
    (member (codes "energy") (fraction_data energy)
    (member (codes "kind") (string (codes "optimal"))
    (member (codes "limits") (limits_data limits) (ending places reserve)))))

abbrev pub farkas_data : Fraction → List (Dual Fraction) → FactorPlaces → Option Data → Data
farkas_data energy limits places reserve = object
    (member (codes "energy") (fraction_data energy)
    (member (codes "kind") (string (codes "farkas"))
    (member (codes "limits") (limits_data limits) (ending places reserve))))

abbrev pub cert_data : Cert Fraction → Data
cert_data (cert.Optimal blocks energy limits places reserve) = optimal_data blocks energy limits places (option_map cleared_reserve_data reserve)
cert_data (cert.Farkas energy limits places reserve) = farkas_data energy limits places (option_map reserve_duals_data reserve)

unfoldable pub cert_text : Cert Fraction → List ℕ
cert_text c = compact_text (cert_data c)

-- the text of the certificate of what a clear came to, where there is one; reserve was listed or not
abbrev pub certificate_of : FactorPlaces → Bool → Outcome Fraction → Option (List ℕ)
certificate_of places listed o = option_map cert_text (cert_of_outcome places listed o)
