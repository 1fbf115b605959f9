-- How long the text of a table is.
use Rattle.std.proofs.Common.{◌≡◌, ℕ, zero, suc, ◌+◌, ◌*◌, ◌/◌, ◌%◌, ◌^◌, ◌<◌, ◌≤◌, ℤ, pos, negsuc, Bool, true, false, cond, List, [], ◌∷◌, ◌++◌, length, arith, refl}
use Rattle.std.specs.Prelude.{codes, decimal, nat_eq, unsigned_abs}
use Rattle.std.specs.Int.Signed.{le_z}
use Rattle.std.specs.List.{AllByRecursion, flat_map}
use Rattle.std.proofs.lemmas.Bool.{and_parts, leb-true}
use Rattle.std.proofs.lemmas.Fmt.{length-decimal-le}
use Rattle.std.proofs.lemmas.Int.{ints}
use Rattle.std.proofs.lemmas.List.{length-append}
use Rattle.std.proofs.lemmas.List.Elements.{recursion_from_All}
use Rattle.exact_fraction.specs.Written.{last_digits, number_text, sign_text, trimmed_places}
use Rattle.exact_fraction.proofs.Digits.{length-last_digits, length-number_text-le}
use Rattle.csv_table.specs.Table.{header_line}
use Rattle.line_text.specs.Decimals.{decimal_text}
use Rattle.market_data.specs.Scales.{most_factor}
use Rattle.market_data.specs.declared.scales.FactorPlaces.{FactorPlaces}
use Rattle.net_case.specs.Networks.{IsNetwork, LiveNetwork, has_bus}
use Rattle.factor_tables.specs.declared.by_pair.Column.{Column}
use Rattle.factor_tables.specs.declared.by_pair.Column.TheVariants as column
use Rattle.factor_tables.specs.Factors.{Entry}
use Rattle.factor_tables.specs.Rules.{is_row}
use Rattle.factor_tables.specs.Tables.{header_of}
use Rattle.factor_tables.proofs.NameLemmas.{bus-range}
use Rattle.factor_text.specs.Texts.{factor_table_text, record_line}
use Rattle.factor_text.specs.Laws.{ObeysRules, TablesAreShort, is_second}

-- ---- the digits of a number
sign-short : (z : ℤ) → length (sign_text z) ≤ 1
sign-short (pos n) = omega arith
sign-short (negsuc n) = omega arith

places-by : (k n : ℕ) → length (trimmed_places k (n / 10)) ≤ k + 1 → (t : Bool) → length (cond t (trimmed_places k (n / 10)) (46 ∷ last_digits (suc k) n)) ≤ suc k + 1
places-by k n rest true = omega (arith, rest)
places-by k n rest false = let all = length-last_digits (suc k) n in omega (arith, all)

places-short : (k n : ℕ) → length (trimmed_places k n) ≤ k + 1
places-short zero n = omega arith
places-short (suc k) n = places-by k n (places-short k (n / 10)) (nat_eq (n % 10) 0)

decimal-short : (z : ℤ) → unsigned_abs z ≤ most_factor → length (decimal_text 9 z) ≤ 15
unfolding decimal_text
decimal-short z small =
    let whole : unsigned_abs z / 10 ^ 9 < 10 ^ 4 = omega (arith, small) in
    let sign = sign-short z in
    let digits = length-number_text-le 4 (unsigned_abs z / 10 ^ 9) (omega arith) whole in
    let places = places-short 9 (unsigned_abs z % 10 ^ 9) in
    let first = length-append (sign_text z) (number_text (unsigned_abs z / 10 ^ 9)) in
    let all = length-append (sign_text z ++ number_text (unsigned_abs z / 10 ^ 9)) (trimmed_places 9 (unsigned_abs z % 10 ^ 9)) in
    omega (arith, sign, digits, places, first, all)

-- ---- the numbers of a record
row-short : (network : LiveNetwork) (n : ℕ) → IsNetwork network → is_row network (pos n) ≡ true → length (decimal n) ≤ 4
row-short network n is row =
    let most : n ≤ network.branch_rows = leb-true n network.branch_rows (and_parts (le_z (pos 1) (pos n)) (le_z (pos n) (pos network.branch_rows)) row).1 in
    let few : network.branch_rows ≤ 2000 = is.branch_row_count in
    let small : n < 10 ^ 4 = omega (arith, most, few) in
    length-decimal-le 4 n (omega arith) small (omega (arith, small))

bus-short : (network : LiveNetwork) (n : ℕ) → IsNetwork network → has_bus network (pos n) ≡ true → length (decimal n) ≤ 10
bus-short network n is bus =
    let most = (bus-range network (pos n) is bus).1 in
    let small : n < 10 ^ 10 = omega (arith, ints, most) in
    length-decimal-le 10 n (omega arith) small (omega (arith, small))

second-short : (kind : Column) (network : LiveNetwork) (n : ℕ) → IsNetwork network → is_second kind network (pos n) ≡ true → length (decimal n) ≤ 10
second-short column.Bus network n is bus = bus-short network n is bus
second-short column.Outage network n is row = let four = row-short network n is row in omega (arith, four)

-- ---- the lines
joined : (a b c comma end : List ℕ) → length a ≤ 4 → length b ≤ 10 → length c ≤ 15 → length comma ≡ 1 → length end ≡ 1 → length (((((a ++ comma) ++ b) ++ comma) ++ c) ++ end) ≤ 32
joined a b c comma end first second third one last = simp length-append (omega (arith, first, second, third, one, last))

line-short : (kind : Column) (network : LiveNetwork) (places : FactorPlaces) (entry : Entry) → IsNetwork network → ObeysRules kind network places entry → length (record_line entry) ≤ 32
unfolding record_line
line-short kind network places entry is rules =
    joined (decimal entry.0.0) (decimal entry.0.1) (decimal_text 9 entry.1) (codes ",") (codes "\n")
    (row-short network entry.0.0 is rules.branch) (second-short kind network entry.0.1 is rules.of) (decimal-short entry.1 rules.size) refl refl

lines-short : (kind : Column) (network : LiveNetwork) (places : FactorPlaces) (entries : List Entry) → IsNetwork network → AllByRecursion (ObeysRules kind network places) entries → length (flat_map record_line entries) ≤ 32 * length entries
lines-short kind network places [] is rules = omega arith
lines-short kind network places (entry ∷ entries) is rules =
    let here = line-short kind network places entry is rules.0 in
    let rest = lines-short kind network places entries is rules.1 in
    let all = length-append (record_line entry) (flat_map record_line entries) in
    omega (arith, here, rest, all)

header-short : (kind : Column) → length (header_line (header_of kind)) ≤ 32
header-short column.Bus = omega arith
header-short column.Outage = omega arith

pub tables-short : TablesAreShort
unfolding factor_table_text
tables-short kind network table is over =
    let rules : AllByRecursion (ObeysRules kind network table.places) table.entries = recursion_from_All (ObeysRules kind network table.places) table.entries over.records in
    let header = header-short kind in
    let lines = lines-short kind network table.places table.entries is rules in
    let all = length-append (header_line (header_of kind)) (flat_map record_line table.entries) in
    omega (arith, header, lines, all)
