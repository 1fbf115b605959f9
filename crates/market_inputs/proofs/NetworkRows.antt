-- The rows of a network that was read: each live branch stands at its own row, and they rise.
use Rattle.std.proofs.Common.{◌≡◌, ◌+◌, refl, subst, arith, ℕ, List, [], ◌∷◌, ◌++◌, length, map, Bool, true, false, Result, Ok, Err, Option, Some, None}
use Rattle.std.specs.Prelude.{◌==◌, IfSome, if◌then◌else◌}
use Rattle.record_reading.specs.Records.{Record}
use Rattle.record_reading.specs.Gathering.{gather, listed}
use Rattle.record_reading.specs.Steps.{and_then, some_of}
use Rattle.case_text.specs.Matrices.{CaseMatrices}
use Rattle.case_text.specs.declared.Field.TheVariants as field
use Rattle.net_case.specs.declared.live_parts.Branches.TheVariants as branches
use Rattle.net_case.specs.declared.live_parts.NetBranch.{NetBranch}
use Rattle.net_case.specs.declared.live_parts.PostRating.{PostRating}
use Rattle.market_data.specs.Scales.{most_buses, most_lines, most_units}
use Rattle.net_case.specs.Columns.{BR_STATUS, F_BUS, RATE_A, T_BUS}
use Rattle.net_case.specs.Networks.{AreRows, LiveNetwork}
use Rattle.net_case.specs.NetworkReading.{Places, branch_count, branch_row, branch_where, branches_in, bus_rows, few_rows, limit_in, limits_in, named_place, network_of, number_in, place_of_number, places_from, post_column, service_in, shifted_in, unit_row}
use Rattle.net_case.proofs.RowLemmas.{few_rows-count, rows-listed, rows-none}

-- ---- steps that went well
-- what follows of what the second step gave follows of both steps
and_then-gives : {A B F : Type 0} (P : B → Type 0) (r : Result A F) (f : A → Result B F) (y : B) → ((x : A) → r ≡ Ok x → f x ≡ Ok y → P y) → and_then r f ≡ Ok y → P y
and_then-gives P (Ok x) f y next is = next x refl is
and_then-gives P (Err e) f y next is = absurd (cc is)

some_of-ok : {A F : Type 0} (r : Result A F) (y : A) → some_of r ≡ Ok (Some y) → r ≡ Ok y
some_of-ok (Ok x) y is = cc is
some_of-ok (Err e) y is = absurd (cc is)

same-ok : {A F : Type 0} (x y : A) → ◌≡◌ {A = Result A F} (Ok x) (Ok y) → x ≡ y
same-ok x y is = cc is

-- what is not a fault is of the other branch
else-gives : {B F : Type 0} (P : B → Type 0) (t : Bool) (e : F) (r : Result B F) (y : B) → (r ≡ Ok y → P y) → (if t then Err e else r) ≡ Ok y → P y
else-gives P true e r y next is = absurd (cc is)
else-gives P false e r y next is = next is

-- ---- a branch has the row that it is read of
abbrev HasRow : ℕ → NetBranch → Type 0
HasRow row b = b.row ≡ row

limits-row : (rating : PostRating) (row : ℕ) (r : Record) (from to : ℕ) (b : NetBranch) → limits_in rating row r from to ≡ Ok b → b.row ≡ row
unfolding limits_in
limits-row rating row r from to b is =
    else-gives (HasRow row) (from == to) _ _ b
    (λ rest. and_then-gives (HasRow row) (limit_in row r RATE_A) _ b
    (λ base _ rest. and_then-gives (HasRow row) (limit_in row r (post_column rating)) _ b
    (λ after _ rest. and_then-gives (HasRow row) (shifted_in row r) _ b (λ shifted _ made. cc made) rest)
    rest)
    rest)
    is

abbrev HaveRow : ℕ → Option NetBranch → Type 0
HaveRow row x = IfSome x (HasRow row)

where-row : (rating : PostRating) (row : ℕ) (r : Record) (from to : Option ℕ) (in_service : Bool) (x : Option NetBranch) → branch_where rating row r from to in_service ≡ Ok x → HaveRow row x
unfolding branch_where
where-row rating row r from to in_service None is = tt
where-row rating row r None to in_service (Some b) is = absurd (cc is)
where-row rating row r (Some from) None in_service (Some b) is = absurd (cc is)
where-row rating row r (Some from) (Some to) false (Some b) is = absurd (cc is)
where-row rating row r (Some from) (Some to) true (Some b) is = limits-row rating row r from to b (some_of-ok _ b is)

read-row : (rating : PostRating) (places : Places) (row : ℕ) (r : Record) (x : Option NetBranch) → branch_row rating places row r ≡ Ok x → HaveRow row x
unfolding branch_row
read-row rating places row r x is =
    and_then-gives (HaveRow row) (number_in field.Branch row r F_BUS 0) _ x
    (λ f_bus _ rest. and_then-gives (HaveRow row) (number_in field.Branch row r T_BUS 0) _ x
    (λ t_bus _ rest. and_then-gives (HaveRow row) (named_place field.Branch row (place_of_number places f_bus)) _ x
    (λ from _ rest. and_then-gives (HaveRow row) (named_place field.Branch row (place_of_number places t_bus)) _ x
    (λ to _ rest. and_then-gives (HaveRow row) (service_in field.Branch row r BR_STATUS) _ x (λ in_service _ rest. where-row rating row r from to in_service x rest) rest)
    rest)
    rest)
    rest)
    is

-- ---- the rows of what is gathered
abbrev rows_in : List NetBranch → List ℕ
rows_in live = map (λ b. b.row) live

gather-rows : {F : Type 0} (read : ℕ → Record → Result (Option NetBranch) F) → ((row : ℕ) (r : Record) (x : Option NetBranch) → read row r ≡ Ok x → HaveRow row x)
    → (rows : List Record) (done : List NetBranch) (last : ℕ) (live : List NetBranch) → AreRows last (rows_in done) → gather (λ _. read) done (last + 1) rows ≡ Ok live
    → AreRows (last + length rows) (rows_in live)
unfolding gather
gather-rows read each [] done last live kept is =
    let same : done ≡ live = cc is in
    let end : last ≡ last + 0 = omega arith in
    subst (λ n. AreRows n (rows_in live)) end (subst (λ d. AreRows last (rows_in d)) same kept)
gather-rows read each (r ∷ rows) done last live kept is =
    and_then-gives (λ live. AreRows (last + length (r ∷ rows)) (rows_in live)) (read (last + 1) r) _ live
    (λ x reads rest.
    let next = rows-listed (λ (b : NetBranch). b.row) done x last kept (each (last + 1) r x reads) in
    let all = gather-rows read each rows (done ++ listed x) (last + 1) live next rest in
    let end : last + 1 + length rows ≡ last + length (r ∷ rows) = omega arith in
    subst (λ n. AreRows n (rows_in live)) end all)
    is

-- the rows of a network's live branches rise, up to the last branch row
pub network-rows : (rating : PostRating) (case : CaseMatrices) (network : LiveNetwork) → network_of (branches.Read rating) case ≡ Ok network → AreRows network.branch_rows (map (λ b. b.row) network.branches)
unfolding network_of
network-rows rating case network is =
    let P : LiveNetwork → Type 0 = λ n. AreRows n.branch_rows (rows_in n.branches) in
    and_then-gives P (few_rows most_buses field.Bus case.bus) _ network
    (λ _ _ rest. and_then-gives P (few_rows most_units field.Gen case.generators) _ network
    (λ gen_rows _ rest. and_then-gives P (branch_count (branches.Read rating) case.branch) _ network
    (λ count counts rest. and_then-gives P (bus_rows case.bus) _ network
    (λ buses _ rest. and_then-gives P (gather (λ _. unit_row (places_from 0 buses.rows)) [] 1 case.generators) _ network
    (λ units _ rest. and_then-gives P (branches_in (branches.Read rating) (places_from 0 buses.rows) case.branch) _ network
    (λ live gathers made.
    let all : AreRows (0 + length case.branch) (rows_in live) = gather-rows (branch_row rating (places_from 0 buses.rows)) (read-row rating (places_from 0 buses.rows)) case.branch [] 0 live (rows-none 0) gathers in
    let last : 0 + length case.branch ≡ count = omega (arith, few_rows-count most_lines field.Branch case.branch count counts) in
    subst P (same-ok _ network made) (subst (λ n. AreRows n (rows_in live)) last all))
    rest)
    rest)
    rest)
    rest)
    rest)
    is
