-- Penalties that are written are read back.
use Rattle.std.proofs.Common.{◌≡◌, ℕ, suc, ◌+◌, ◌<◌, ◌≤◌, ℤ, pos, Bool, true, false, List, [], ◌∷◌, ◌++◌, length, map, arith, refl, sym, ap, ◌∙◌, subst, Some, Ok, Err, append_assoc, append-nil}
use Rattle.std.specs.Prelude.{◌<ℤ◌, ◌≤ℤ◌, ◌||◌, not, codes, decimal, if◌then◌else◌}
use Rattle.std.specs.Int.Signed.{le_z, lt_z}
use Rattle.std.specs.List.{AllByRecursion, flat_map}
use Rattle.std.proofs.lemmas.Grind.{flat_map-append}
use Rattle.std.proofs.lemmas.Int.{ints}
use Rattle.std.proofs.lemmas.List.{length-map}
use Rattle.record_reading.specs.Records.{Record}
use Rattle.record_reading.specs.Gathering.{gather, read_records}
use Rattle.record_reading.specs.Steps.{and_then, checked, fine, or_as, some_of}
use Rattle.scaled_decimal.specs.Reading.{units_of}
use Rattle.csv_table.specs.Table.{framed, header_line}
use Rattle.line_text.specs.Decimals.{decimal_text}
use Rattle.market_data.specs.Scales.{most_penalties}
use Rattle.net_case.specs.declared.live_parts.NetBranch.{NetBranch}
use Rattle.net_case.specs.Networks.{LiveNetwork}
use Rattle.factor_tables.specs.Penalties.{IsSoftness, PenaltyEntry, has_branch_limit, has_penalty, penalties_of, penalty_entry, penalty_faults, penalty_header}
use Rattle.factor_tables.specs.Records.{penalty_in, post_in}
use Rattle.factor_tables.specs.Rules.{is_row}
use Rattle.factor_tables.specs.declared.penalty_list.Softness.{Softness}
use Rattle.factor_tables.specs.declared.table_fault.TableFault.{TableFault}
use Rattle.factor_tables.specs.declared.table_fault.TableFault.TheVariants as fault
use Rattle.prepared_text.specs.PenaltyText.{all_soft, branch_lines, limit_word, penalty_line, penalty_text, soft_limits}
use Rattle.prepared_text.specs.PenaltyLaws.{LawOfPenaltiesRead}
use Rattle.prepared_text.proofs.NumbersRead.{IsCellText, decimal-cell, decimal-read, number-cell, number-read, word}
use Rattle.prepared_text.proofs.TablesRead.{IsPlainRecord, cells_line, four-cells, table-framed, then-ok}
use Rattle.prepared_text.proofs.SoftEntries.{IsEntryOf, RiseFrom, all-entries, all-rise, below-push, few-entries, fresh, limit_key}

-- ---- the cells of an entry
abbrev cells_of : PenaltyEntry → Record
cells_of entry = decimal entry.0.0 ∷ limit_word entry.0.1 ∷ decimal_text 6 entry.1.price ∷ decimal_text 9 entry.1.most_excess ∷ []

entries-cells : (entries : List PenaltyEntry) → flat_map penalty_line entries ≡ flat_map cells_line (map cells_of entries)
entries-cells [] = refl
entries-cells (entry ∷ entries) =
    ap (λ t. t ++ flat_map penalty_line entries) (four-cells (codes ",") (codes "\n") (decimal entry.0.0) (limit_word entry.0.1) (decimal_text 6 entry.1.price) (decimal_text 9 entry.1.most_excess))
    ∙ ap (λ t. cells_line (cells_of entry) ++ t) (entries-cells entries)

lines-join : (softness : Softness) (branches : List NetBranch) → flat_map (branch_lines softness) branches ≡ flat_map penalty_line (flat_map (soft_limits softness) branches)
unfolding branch_lines
lines-join softness [] = refl
lines-join softness (branch ∷ branches) =
    ap (λ t. flat_map penalty_line (soft_limits softness branch) ++ t) (lines-join softness branches) ∙ sym (flat_map-append penalty_line (soft_limits softness branch) (flat_map (soft_limits softness) branches))

text-cells : (network : LiveNetwork) (softness : Softness) → penalty_text network softness ≡ flat_map cells_line (penalty_header ∷ map cells_of (all_soft network softness))
unfolding penalty_text
text-cells network softness = ap (λ t. header_line penalty_header ++ t) (lines-join softness network.branches ∙ entries-cells (all_soft network softness))

-- ---- an entry that is read
post-read : (line : ℕ) (a c d : List ℕ) (post : Bool) → post_in line (a ∷ limit_word post ∷ c ∷ d ∷ []) ≡ Ok post
unfolding post_in
post-read line a c d true = refl
post-read line a c d false = refl

numbers-are : (line : ℕ) (a b c d : List ℕ) (x y z : ℤ) (post : Bool) → post_in line (a ∷ b ∷ c ∷ d ∷ []) ≡ Ok post → units_of 0 a ≡ Ok x → units_of 6 c ≡ Ok y → units_of 9 d ≡ Ok z
    → penalty_in line (a ∷ b ∷ c ∷ d ∷ []) ≡ Ok (record { branch = x; post = post; softness = record { price = y; most_excess = z } })
unfolding penalty_in
numbers-are line a b c d x y z post second first third fourth = rw (second, first, third, fourth) refl

not-under : (a : ℤ) → pos 0 <ℤ a → le_z a (pos 0) ≡ false
not-under a h = grind (arith, ints)

not-below : (a : ℤ) → pos 0 ≤ℤ a → lt_z a (pos 0) ≡ false
not-below a h = grind (arith, ints)

all-pass : {F : Type 0} (a b c d : Bool) (w x y : F) → a ≡ true → b ≡ true → c ≡ false → d ≡ false → checked ((not a, w) ∷ (not b, x) ∷ (c || d, y) ∷ []) (fine {F = F}) ≡ fine {F = F}
all-pass a b c d w x y p q r s = rw (p, q, r, s) refl

checks-pass : (network : LiveNetwork) (line : ℕ) (softness : Softness) (entry : PenaltyEntry) → IsSoftness entry.1 → IsEntryOf network softness entry
    → checked (penalty_faults network line (record { branch = pos entry.0.0; post = entry.0.1; softness = entry.1 })) (fine {F = TableFault}) ≡ fine {F = TableFault}
unfolding penalty_faults
checks-pass network line softness entry gives is =
    all-pass (is_row network (pos entry.0.0)) (has_branch_limit network (pos entry.0.0) entry.0.1) (le_z entry.1.price (pos 0)) (lt_z entry.1.most_excess (pos 0)) (fault.NoBranch line) (fault.NoLimit line) (fault.Penalty line)
    is.row is.limit (not-under entry.1.price gives.costs) (not-below entry.1.most_excess gives.exceeds)

chosen : {A F : Type 0} (twice : Bool) (e : F) (x : A) → twice ≡ false → (if twice then Err e else Ok x) ≡ Ok x
chosen true e x h = absurd (cc)
chosen false e x h = refl

entry-read : (network : LiveNetwork) (softness : Softness) (done : List PenaltyEntry) (line : ℕ) (entry : PenaltyEntry) → IsSoftness entry.1 → IsEntryOf network softness entry → has_penalty done entry.0 ≡ false
    → penalty_entry network done line (cells_of entry) ≡ Ok entry
unfolding penalty_entry
entry-read network softness done line entry gives is new =
    then-ok (penalty_in line (cells_of entry)) (record { branch = pos entry.0.0; post = entry.0.1; softness = entry.1 }) _ (Ok entry)
    (numbers-are line (decimal entry.0.0) (limit_word entry.0.1) (decimal_text 6 entry.1.price) (decimal_text 9 entry.1.most_excess) (pos entry.0.0) entry.1.price entry.1.most_excess entry.0.1
    (post-read line (decimal entry.0.0) (decimal_text 6 entry.1.price) (decimal_text 9 entry.1.most_excess) entry.0.1)
    (number-read entry.0.0 is.small) (decimal-read 6 entry.1.price gives.price) (decimal-read 9 entry.1.most_excess gives.excess))
    (then-ok (checked (penalty_faults network line (record { branch = pos entry.0.0; post = entry.0.1; softness = entry.1 })) fine) tt _ (Ok entry) (checks-pass network line softness entry gives is)
    (chosen (has_penalty done entry.0) (fault.Twice line) entry new))

-- ---- all of them
module _ (network : LiveNetwork) (softness : Softness) (gives : IsSoftness softness) where
  its-own : (entry : PenaltyEntry) → IsEntryOf network softness entry → IsSoftness entry.1
  its-own entry is = subst IsSoftness (sym is.soft) gives

  all-read : (rest done : List PenaltyEntry) (line n : ℕ) → AllByRecursion (IsEntryOf network softness) rest → RiseFrom n rest → AllByRecursion (λ e. limit_key e.0 < n) done
      → read_records (penalty_entry network) done line (map cells_of rest) ≡ Ok (done ++ rest)
  unfolding gather
  all-read [] done line n are rise below = ap Ok (sym (append-nil done))
  all-read (entry ∷ rest) done line n are rise below =
      then-ok (some_of (penalty_entry network done line (cells_of entry))) (Some entry) _ (Ok (done ++ entry ∷ rest))
      (ap some_of (entry-read network softness done line entry (its-own entry are.0) are.0 (fresh n entry.0 done rise.0 below)))
      (all-read rest (done ++ entry ∷ []) (line + 1) (suc (limit_key entry.0)) are.1 rise.1 (below-push n entry done rise.0 below) ∙ ap Ok (append_assoc done (entry ∷ []) rest))

  limit-cell : (post : Bool) → IsCellText (limit_word post)
  limit-cell true = word (codes "post") (omega arith) refl
  limit-cell false = word (codes "base") (omega arith) refl

  plain-entries : (entries : List PenaltyEntry) → AllByRecursion (IsEntryOf network softness) entries → AllByRecursion IsPlainRecord (map cells_of entries)
  plain-entries [] are = tt
  plain-entries (entry ∷ entries) are =
      let own = its-own entry are.0 in (
        record {
          some = omega arith;
          cells = (number-cell entry.0.0 are.0.small, (limit-cell entry.0.1, (decimal-cell 6 entry.1.price own.price, (decimal-cell 9 entry.1.most_excess own.excess, tt))));
        },
        plain-entries entries are.1,
      )

plain-header : IsPlainRecord penalty_header
plain-header = record {
  some = omega arith;
  cells = (word (codes "branch") (omega arith) refl, (word (codes "limit") (omega arith) refl, (word (codes "price") (omega arith) refl, (word (codes "excess") (omega arith) refl, tt))));
}

wide : (entries : List PenaltyEntry) → AllByRecursion (λ r. length r ≡ length penalty_header) (map cells_of entries)
wide [] = tt
wide (entry ∷ entries) = (refl, wide entries)

pub penalties-back : LawOfPenaltiesRead
unfolding penalties_of
penalties-back network softness is gives =
    let are = all-entries network softness is in
    let few : length (map cells_of (all_soft network softness)) ≤ most_penalties =
    let count = is.branch_count in let most = few-entries softness network.branches in omega (arith, count, most, length-map (all_soft network softness) cells_of) in
    ap (λ text. and_then (framed fault.Frame penalty_header (Some most_penalties) text) (read_records (penalty_entry network) [] 2)) (text-cells network softness)
    ∙ then-ok (framed fault.Frame penalty_header (Some most_penalties) (flat_map cells_line (penalty_header ∷ map cells_of (all_soft network softness)))) (map cells_of (all_soft network softness)) _ (Ok (all_soft network softness))
    (ap (or_as fault.Frame) (table-framed penalty_header (Some most_penalties) (map cells_of (all_soft network softness)) plain-header (plain-entries network softness gives (all_soft network softness) are) (wide (all_soft network softness)) few))
    (all-read network softness gives (all_soft network softness) [] 2 0 are (all-rise network softness is) tt)
