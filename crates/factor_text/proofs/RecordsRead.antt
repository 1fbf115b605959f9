-- The records of a written table are read one after the other.
use Rattle.std.proofs.Common.{◌≡◌, ◌≢◌, ℕ, zero, suc, ◌+◌, ◌*◌, ◌<◌, ◌≤◌, ◌^◌, ℤ, pos, negsuc, ◌*ℤ◌, Bool, true, false, ◌&&◌, not, List, [], ◌∷◌, ◌++◌, length, map, get_or, arith, refl, sym, ap, subst, ◌∙◌, Option, Some, None, Result, Ok, Err, append_assoc}
use Rattle.std.specs.Prelude.{decimal, if◌then◌else◌, is_some, unsigned_abs}
use Rattle.std.specs.Int.Signed.{le_z}
use Rattle.std.specs.List.{AllByRecursion}
use Rattle.std.specs.Map.{lookup}
use Rattle.std.proofs.Math.Seq.{get_or-append_seam}
use Rattle.std.proofs.lemmas.Bool.{and_parts, false≢true, le-ltb, leb-true}
use Rattle.std.proofs.lemmas.Int.{ints, unsigned_abs-mul}
use Rattle.std.proofs.lemmas.List.{append-nil, get_or_append_left, length-append}
use Rattle.std.proofs.lemmas.List.Elements.{recursion_from_All}
use Rattle.std.proofs.lemmas.Map.Entries.{place_from_lookup}
use Rattle.std.proofs.lemmas.Option.{get_or_from_slice_get, slice_get_within}
use Rattle.record_reading.specs.Gathering.{gather, read_records}
use Rattle.record_reading.specs.Steps.{and_then, checked, fine, or_as, some_of}
use Rattle.scaled_decimal.specs.Reading.{units_of}
use Rattle.csv_table.specs.Table.{framed}
use Rattle.market_data.specs.Scales.{most_factor, place_count, place_step}
use Rattle.market_data.specs.declared.scales.FactorPlaces.{FactorPlaces}
use Rattle.line_text.specs.Decimals.{decimal_text}
use Rattle.net_case.specs.Networks.{IsNetwork, LiveNetwork, has_bus}
use Rattle.factor_tables.specs.declared.by_pair.Column.{Column}
use Rattle.factor_tables.specs.declared.by_pair.Column.TheVariants as column
use Rattle.factor_tables.specs.declared.table_fault.TableFault.{TableFault}
use Rattle.factor_tables.specs.declared.table_fault.TableFault.TheVariants as fault
use Rattle.factor_tables.specs.Factors.{Entry, FactorRecords, HasNoPairTwice, has_pair, same_pair}
use Rattle.factor_tables.specs.Records.{factor_cell, record_in}
use Rattle.factor_tables.specs.Rules.{is_live_branch, is_live_bus, is_row, is_used, loss_faults, record_faults, shift_faults}
use Rattle.factor_tables.specs.Tables.{entry_in, factors_of, header_of, table_of}
use Rattle.factor_tables.proofs.FactorLemmas.{one_pair}
use Rattle.factor_tables.proofs.NameLemmas.{bus-range}
use Rattle.factor_text.specs.Texts.{factor_table_text}
use Rattle.factor_text.specs.Laws.{IsTableOver, ObeysRules}
use Rattle.factor_text.proofs.NumbersRead.{factor-read, number-read}
use Rattle.factor_text.proofs.TextsDerived.{IsInRange, cells_of, table-framed}

then-ok : {A B F : Type 0} (first : Result A F) (x : A) (next : A → Result B F) (r : Result B F) → first ≡ Ok x → next x ≡ r → and_then first next ≡ r
then-ok first x next r e n = ap (λ s. and_then s next) e ∙ n

-- ---- the numbers of a record
factor-is : (places : FactorPlaces) (line : ℕ) (a b c : List ℕ) (units : ℤ) → units_of (place_count places) c ≡ Ok units → unsigned_abs units * place_step places ≤ most_factor
    → factor_cell places line (a ∷ b ∷ c ∷ []) ≡ Ok (units *ℤ pos (place_step places))
unfolding factor_cell
factor-is places line a b c units read small = rw (read, le-ltb most_factor (unsigned_abs units * place_step places) small) refl

record-is : (places : FactorPlaces) (line : ℕ) (a b c : List ℕ) (x y z : ℤ) → units_of 0 a ≡ Ok x → units_of 0 b ≡ Ok y → factor_cell places line (a ∷ b ∷ c ∷ []) ≡ Ok z
    → record_in places line (a ∷ b ∷ c ∷ []) ≡ Ok (record { branch = x; of = y; factor = z })
unfolding record_in
record-is places line a b c x y z first second third = rw (first, second, third) refl

numbers-read : (kind : Column) (network : LiveNetwork) (places : FactorPlaces) (line : ℕ) (entry : Entry) → ObeysRules kind network places entry → IsInRange entry → record_in places line (cells_of entry) ≡ Ok (record { branch = pos entry.0.0; of = pos entry.0.1; factor = entry.1 })
numbers-read kind network places line entry rules range =
    let units : ℤ = rules.whole.0 in
    let size : unsigned_abs entry.1 ≡ unsigned_abs units * place_step places = ap unsigned_abs rules.whole.1 ∙ unsigned_abs-mul units (pos (place_step places)) in
    let small : unsigned_abs units * place_step places ≤ most_factor = subst (λ (n : ℕ). n ≤ most_factor) size range.size in
    let factor : factor_cell places line (cells_of entry) ≡ Ok entry.1 =
    factor-is places line (decimal entry.0.0) (decimal entry.0.1) (decimal_text 9 entry.1) units (factor-read places entry.1 units range.size rules.whole.1) small ∙ ap Ok (sym rules.whole.1) in
    record-is places line (decimal entry.0.0) (decimal entry.0.1) (decimal_text 9 entry.1) (pos entry.0.0) (pos entry.0.1) entry.1 (number-read entry.0.0 range.first) (number-read entry.0.1 range.second) factor

-- ---- they name what is there
and-not-true : (x : Bool) → (x && not true) ≡ false
and-not-true true = refl
and-not-true false = refl

unused : (z : ℤ) → (z ≢ pos 0 → false ≡ true) → (is_used z && not false) ≡ false
unused (pos zero) live = refl
unused (pos (suc n)) live = absurd (false≢true (live (λ e. let none : suc n ≡ 0 = ap unsigned_abs e in omega (arith, none))))
unused (negsuc n) live = absurd (false≢true (live (λ e. let none : suc n ≡ 0 = ap unsigned_abs e in omega (arith, none))))

not-idle : (z : ℤ) (is_live : Bool) → (z ≢ pos 0 → is_live ≡ true) → (is_used z && not is_live) ≡ false
not-idle z true live = and-not-true (is_used z)
not-idle z false live = unused z live

all-pass : {F : Type 0} (a b c d : Bool) (w x y z : F) → a ≡ true → b ≡ true → c ≡ false → d ≡ false → checked ((not a, w) ∷ (not b, x) ∷ (c, y) ∷ (d, z) ∷ []) (fine {F = F}) ≡ fine {F = F}
all-pass a b c d w x y z p q r s = rw (p, q, r, s) refl

checks-pass : (kind : Column) (network : LiveNetwork) (places : FactorPlaces) (line : ℕ) (entry : Entry) → ObeysRules kind network places entry
    → checked (record_faults kind network line (record { branch = pos entry.0.0; of = pos entry.0.1; factor = entry.1 })) (fine {F = TableFault}) ≡ fine {F = TableFault}
unfolding shift_faults loss_faults
checks-pass column.Bus network places line entry rules =
    all-pass (is_row network (pos entry.0.0)) (has_bus network (pos entry.0.1)) (is_used entry.1 && not (is_live_branch network (pos entry.0.0))) (is_used entry.1 && not (is_live_bus network (pos entry.0.1)))
    (fault.NoBranch line) (fault.NoBus line) (fault.DeadBranch line) (fault.DeadBus line)
    rules.branch rules.of (not-idle entry.1 (is_live_branch network (pos entry.0.0)) (λ used. (rules.live used).0)) (not-idle entry.1 (is_live_bus network (pos entry.0.1)) (λ used. (rules.live used).1))
checks-pass column.Outage network places line entry rules =
    all-pass (is_row network (pos entry.0.0)) (is_row network (pos entry.0.1)) (is_used entry.1 && not (is_live_branch network (pos entry.0.0))) (is_used entry.1 && not (is_live_branch network (pos entry.0.1)))
    (fault.NoBranch line) (fault.NoBranch line) (fault.DeadBranch line) (fault.DeadBranch line)
    rules.branch rules.of (not-idle entry.1 (is_live_branch network (pos entry.0.0)) (λ used. (rules.live used).0)) (not-idle entry.1 (is_live_branch network (pos entry.0.1)) (λ used. (rules.live used).1))

-- ---- no pair stood before
fresh : (done rest : List Entry) (entry : Entry) → HasNoPairTwice (done ++ entry ∷ rest) → has_pair done entry.0 ≡ false
fresh done rest entry once = by (lookup (same_pair entry.0) done) refl
  where
    by : (o : Option ℤ) → lookup (same_pair entry.0) done ≡ o → is_some o ≡ false
    by None none = refl
    by (Some x) found =
        let (k, pair, stands, passes) = place_from_lookup (same_pair entry.0) done x found in
        let early : k < length done = slice_get_within done k (pair, x) stands in
        let within : length done < length (done ++ entry ∷ rest) = omega (arith, length-append done (entry ∷ rest)) in
        let there : get_or (done ++ entry ∷ rest) k entry ≡ (pair, x) = get_or_append_left done (entry ∷ rest) entry k early ∙ get_or_from_slice_get done k (pair, x) entry stands in
        let here : get_or (done ++ entry ∷ rest) (length done) entry ≡ entry = get_or-append_seam done entry rest entry in
        absurd (once k (length done) entry early within (ap (λ (e : Entry). e.0) there ∙ (sym (one_pair entry.0 pair passes) ∙ ap (λ (e : Entry). e.0) (sym here))))

-- ---- one record, and all of them
chosen : {A F : Type 0} (twice : Bool) (e : F) (x : A) → twice ≡ false → (if twice then Err e else Ok x) ≡ Ok x
chosen true e x h = absurd (false≢true (sym h))
chosen false e x h = refl

entry-read : (kind : Column) (network : LiveNetwork) (places : FactorPlaces) (done : List Entry) (line : ℕ) (entry : Entry) → ObeysRules kind network places entry → IsInRange entry → has_pair done entry.0 ≡ false
    → entry_in places network kind done line (cells_of entry) ≡ Ok entry
unfolding entry_in
entry-read kind network places done line entry rules range new =
    then-ok (record_in places line (cells_of entry)) (record { branch = pos entry.0.0; of = pos entry.0.1; factor = entry.1 }) _ (Ok entry) (numbers-read kind network places line entry rules range)
    (then-ok (checked (record_faults kind network line (record { branch = pos entry.0.0; of = pos entry.0.1; factor = entry.1 })) fine) tt _ (Ok entry) (checks-pass kind network places line entry rules) (chosen (has_pair done entry.0) (fault.Twice line) entry new))

all-read : (kind : Column) (network : LiveNetwork) (places : FactorPlaces) (rest done : List Entry) (line : ℕ) → AllByRecursion (ObeysRules kind network places) rest → AllByRecursion IsInRange rest → HasNoPairTwice (done ++ rest)
    → read_records (entry_in places network kind) done line (map cells_of rest) ≡ Ok (done ++ rest)
unfolding gather
all-read kind network places [] done line rules ranges once = ap Ok (sym (append-nil done))
all-read kind network places (entry ∷ rest) done line rules ranges once =
    let again : HasNoPairTwice ((done ++ entry ∷ []) ++ rest) = subst HasNoPairTwice (sym (append_assoc done (entry ∷ []) rest)) once in
    then-ok (some_of (entry_in places network kind done line (cells_of entry))) (Some entry) _ (Ok (done ++ entry ∷ rest))
    (ap some_of (entry-read kind network places done line entry rules.0 ranges.0 (fresh done rest entry once)))
    (all-read kind network places rest (done ++ entry ∷ []) (line + 1) rules.1 ranges.1 again ∙ ap Ok (append_assoc done (entry ∷ []) rest))

-- ---- the numbers of records over a network are in range
row-small : (network : LiveNetwork) (n : ℕ) → IsNetwork network → is_row network (pos n) ≡ true → n < 2 ^ 63
row-small network n is row =
    let most : n ≤ network.branch_rows = leb-true n network.branch_rows (and_parts (le_z (pos 1) (pos n)) (le_z (pos n) (pos network.branch_rows)) row).1 in
    let few : network.branch_rows ≤ 2000 = is.branch_row_count in
    omega (arith, most, few)

bus-small : (network : LiveNetwork) (n : ℕ) → IsNetwork network → has_bus network (pos n) ≡ true → n < 2 ^ 63
bus-small network n is bus = let range = bus-range network (pos n) is bus in let most = range.1 in omega (arith, ints, most)

in-range : (kind : Column) (network : LiveNetwork) (places : FactorPlaces) (entry : Entry) → IsNetwork network → ObeysRules kind network places entry → IsInRange entry
in-range column.Bus network places entry is rules = record { first = row-small network entry.0.0 is rules.branch; second = bus-small network entry.0.1 is rules.of; size = rules.size }
in-range column.Outage network places entry is rules = record { first = row-small network entry.0.0 is rules.branch; second = row-small network entry.0.1 is rules.of; size = rules.size }

all-in-range : (kind : Column) (network : LiveNetwork) (places : FactorPlaces) (entries : List Entry) → IsNetwork network → AllByRecursion (ObeysRules kind network places) entries → AllByRecursion IsInRange entries
all-in-range kind network places [] is rules = tt
all-in-range kind network places (entry ∷ entries) is rules = (in-range kind network places entry is rules.0, all-in-range kind network places entries is rules.1)

-- ---- the table
pub read-back : (kind : Column) (network : LiveNetwork) (table : FactorRecords) → IsNetwork network → IsTableOver kind network table → table_of kind network (factor_table_text kind table.entries) table.places ≡ Ok table
unfolding factors_of
read-back kind network table is over =
    let rules : AllByRecursion (ObeysRules kind network table.places) table.entries = recursion_from_All (ObeysRules kind network table.places) table.entries over.records in
    let ranges = all-in-range kind network table.places table.entries is rules in
    then-ok (factors_of kind network (factor_table_text kind table.entries) table.places) table.entries _ (Ok table)
    (then-ok (framed fault.Frame (header_of kind) None (factor_table_text kind table.entries)) (map cells_of table.entries) _ (Ok table.entries) (ap (or_as fault.Frame) (table-framed kind table.entries ranges))
    (all-read kind network table.places table.entries [] 2 rules ranges over.once))
    refl
