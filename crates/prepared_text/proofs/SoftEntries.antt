-- The entries for the limits of branches, one or two for each branch.
use Rattle.std.proofs.Common.{◌≡◌, ℕ, zero, suc, ◌+◌, ◌*◌, ◌<◌, ◌≤◌, ◌^◌, pos, Bool, true, false, cond, List, [], ◌∷◌, ◌++◌, length, map, get_or, arith, refl, sym, ap, subst, ◌∙◌, Option, Some, None, inl, inr}
use Rattle.std.specs.Prelude.{◌==◌, ◌&&◌, ◌||◌, ◌⊎◌, ◌≢◌, AllPairs, Contains, if◌then◌else◌, is_some}
use Rattle.std.specs.List.{AllByRecursion, flat_map, list_any}
use Rattle.std.specs.Map.{lookup}
use mathlib.Core.Bool.{beq}
use Rattle.std.proofs.lemmas.Bool.{and_from, eq-eqb, or_right}
use Rattle.std.proofs.lemmas.Bool.Decides.{Decides-int_eq, eqb_tells}
use Rattle.std.proofs.lemmas.List.Elements.{All-contains_itself, recursion_from_All}
use Rattle.std.proofs.lemmas.List.Folds.{list_any-from_Any, list_any-append}
use Rattle.net_case.specs.declared.live_parts.NetBranch.{NetBranch}
use Rattle.net_case.specs.Networks.{IsNetwork, LiveNetwork}
use Rattle.factor_tables.specs.Penalties.{Limit, PenaltyEntry, branch_limit, has_branch_limit, has_penalty, same_limit}
use Rattle.factor_tables.specs.Rules.{is_row}
use Rattle.factor_tables.specs.declared.penalty_list.Softness.{Softness}
use Rattle.prepared_text.specs.PenaltyText.{all_soft, soft_limits}
use Rattle.prepared_text.specs.PenaltyLaws.{LawOfSoftLimits}
use Rattle.prepared_text.proofs.LiveBranches.{is-row, row-small}

-- the entries of a branch of a row, by which of the two limits it has
abbrev entries_of : ℕ → Softness → Bool → Bool → List PenaltyEntry
entries_of row softness base post = map (λ limit. (limit, softness)) (map (λ kind. (row, kind)) (if base then false ∷ (if post then true ∷ [] else []) else (if post then true ∷ [] else [])))

-- ---- each is of a limit of a live branch
pub record IsEntryOf (network : LiveNetwork) (softness : Softness) (entry : PenaltyEntry) : Type 0 where
  pub row : is_row network (pos entry.0.0) ≡ true
  pub small : entry.0.0 < 2 ^ 63
  pub limit : has_branch_limit network (pos entry.0.0) entry.0.1 ≡ true
  pub soft : entry.1 ≡ softness

module _ (P : PenaltyEntry → Type 0) (row : ℕ) (softness : Softness) (rest : List PenaltyEntry) (behind : AllByRecursion P rest) where
  all-of : (base post : Bool) → (base ≡ true → P ((row, false), softness)) → (post ≡ true → P ((row, true), softness)) → AllByRecursion P (entries_of row softness base post ++ rest)
  all-of true true first second = (first refl, (second refl, behind))
  all-of true false first second = (first refl, behind)
  all-of false true first second = (second refl, behind)
  all-of false false first second = behind

limit-there : (network : LiveNetwork) (branch : NetBranch) (post : Bool) → Contains network.branches branch → is_some (branch_limit post branch) ≡ true → has_branch_limit network (pos branch.row) post ≡ true
limit-there network branch post live has =
    let (k, within, at) = live in
    list_any-from_Any _ network.branches (k, branch, within, at, and_from _ _ ((Decides-int_eq (pos branch.row) (pos branch.row)).1 refl) has)

entry-is : (network : LiveNetwork) (softness : Softness) (branch : NetBranch) (post : Bool) → IsNetwork network → Contains network.branches branch → is_some (branch_limit post branch) ≡ true
    → IsEntryOf network softness ((branch.row, post), softness)
entry-is network softness branch post is live has = record {
  row = is-row network is branch live;
  small = let few = row-small network is branch live in omega (arith, few);
  limit = limit-there network branch post live has;
  soft = refl;
}

entries-are : (network : LiveNetwork) (softness : Softness) (branches : List NetBranch) → IsNetwork network → AllByRecursion (Contains network.branches) branches
    → AllByRecursion (IsEntryOf network softness) (flat_map (soft_limits softness) branches)
entries-are network softness [] is live = tt
entries-are network softness (branch ∷ branches) is live =
    all-of (IsEntryOf network softness) branch.row softness (flat_map (soft_limits softness) branches) (entries-are network softness branches is live.1) (is_some branch.base) (is_some branch.post)
    (entry-is network softness branch false is live.0) (entry-is network softness branch true is live.0)

pub all-entries : (network : LiveNetwork) (softness : Softness) → IsNetwork network → AllByRecursion (IsEntryOf network softness) (all_soft network softness)
all-entries network softness is = entries-are network softness network.branches is (recursion_from_All (Contains network.branches) network.branches (All-contains_itself network.branches))

-- ---- they rise: by the branch's row, and then the limit in the base before that after an outage
abbrev pub limit_key : Limit → ℕ
limit_key limit = 2 * limit.0 + (if limit.1 then 1 else 0)

abbrev pub RiseFrom : ℕ → List PenaltyEntry → Type 0
RiseFrom n [] = Unit {0}
RiseFrom n (entry ∷ entries) = (n ≤ limit_key entry.0) × RiseFrom (suc (limit_key entry.0)) entries

rise-lower : (m n : ℕ) (entries : List PenaltyEntry) → m ≤ n → RiseFrom n entries → RiseFrom m entries
rise-lower m n [] le rise = tt
rise-lower m n (entry ∷ entries) le rise = (let first = rise.0 in omega (arith, le, first), rise.1)

rise-of : (n row : ℕ) (softness : Softness) (base post : Bool) (rest : List PenaltyEntry) → n ≤ 2 * row → RiseFrom (2 * suc row) rest → RiseFrom n (entries_of row softness base post ++ rest)
rise-of n row softness true true rest le rise = (omega (arith, le), (omega arith, rise-lower (suc (2 * row + 1)) (2 * suc row) rest (omega arith) rise))
rise-of n row softness true false rest le rise = (omega (arith, le), rise-lower (suc (2 * row + 0)) (2 * suc row) rest (omega arith) rise)
rise-of n row softness false true rest le rise = (omega (arith, le), rise-lower (suc (2 * row + 1)) (2 * suc row) rest (omega arith) rise)
rise-of n row softness false false rest le rise = rise-lower n (2 * suc row) rest (omega (arith, le)) rise

branches-rise : (n : ℕ) (softness : Softness) (branches : List NetBranch) → AllPairs (λ a b. a < b) (map (λ b. b.row) branches) → ((k : ℕ) (d : ℕ) → k < length (map (λ b. b.row) branches) → n ≤ get_or (map (λ b. b.row) branches) k d)
    → RiseFrom (2 * n) (flat_map (soft_limits softness) branches)
branches-rise n softness [] rise least = tt
branches-rise n softness (branch ∷ branches) rise least =
    let first : n ≤ branch.row = least 0 0 (omega arith) in
    rise-of (2 * n) branch.row softness (is_some branch.base) (is_some branch.post) (flat_map (soft_limits softness) branches) (omega (arith, first))
    (branches-rise (suc branch.row) softness branches (λ i j d lt within. rise (suc i) (suc j) d (omega (arith, lt)) (omega (arith, within))) (λ k d lt. rise 0 (suc k) d (omega arith) (omega (arith, lt))))

pub all-rise : (network : LiveNetwork) (softness : Softness) → IsNetwork network → RiseFrom 0 (all_soft network softness)
all-rise network softness is = branches-rise 0 softness network.branches is.rows_of_branches.rise (λ k d lt. omega arith)

-- so none stands among those before it
differs : (a b : Limit) → limit_key b < limit_key a → same_limit a b ≡ false
differs (row, post) (other, kind) lt = by (eqb_tells row other) post kind lt
  where
    by : ((row == other ≡ true) × (row ≡ other)) ⊎ ((row == other ≡ false) × (row ≢ other)) → (p q : Bool) → 2 * other + (if q then 1 else 0) < 2 * row + (if p then 1 else 0) → ((row == other) && beq p q) ≡ false
    by (inr t) p q lt = ap (λ (u : Bool). u && beq p q) t.0
    by (inl t) true true lt = let same = t.1 in absurd (omega (arith, lt, same))
    by (inl t) false false lt = let same = t.1 in absurd (omega (arith, lt, same))
    by (inl t) true false lt = ap (λ (u : Bool). u && false) t.0
    by (inl t) false true lt = ap (λ (u : Bool). u && false) t.0

none-among : (n : ℕ) (limit : Limit) (done : List PenaltyEntry) → n ≤ limit_key limit → AllByRecursion (λ e. limit_key e.0 < n) done → lookup (same_limit limit) done ≡ None
none-among n limit [] le below = refl
none-among n limit (entry ∷ done) le below =
    let lower : limit_key entry.0 < limit_key limit = let first = below.0 in omega (arith, le, first) in
    ap (λ (t : Bool). cond t (Some entry.1) (lookup (same_limit limit) done)) (differs limit entry.0 lower) ∙ none-among n limit done le below.1

pub fresh : (n : ℕ) (limit : Limit) (done : List PenaltyEntry) → n ≤ limit_key limit → AllByRecursion (λ e. limit_key e.0 < n) done → has_penalty done limit ≡ false
fresh n limit done le below = ap is_some (none-among n limit done le below)

pub below-push : (n : ℕ) (entry : PenaltyEntry) (done : List PenaltyEntry) → n ≤ limit_key entry.0 → AllByRecursion (λ e. limit_key e.0 < n) done → AllByRecursion (λ e. limit_key e.0 < suc (limit_key entry.0)) (done ++ entry ∷ [])
below-push n entry [] le below = (omega arith, tt)
below-push n entry (first ∷ done) le below = (let lower = below.0 in omega (arith, le, lower), below-push n entry done le below.1)

-- ---- there are at most two for each branch
few-of : (row : ℕ) (softness : Softness) (base post : Bool) (rest : List PenaltyEntry) → length (entries_of row softness base post ++ rest) ≤ 2 + length rest
few-of row softness true true rest = omega arith
few-of row softness true false rest = omega arith
few-of row softness false true rest = omega arith
few-of row softness false false rest = omega arith

pub few-entries : (softness : Softness) (branches : List NetBranch) → length (flat_map (soft_limits softness) branches) ≤ 2 * length branches
few-entries softness [] = omega arith
few-entries softness (branch ∷ branches) =
    let here = few-of branch.row softness (is_some branch.base) (is_some branch.post) (flat_map (soft_limits softness) branches) in
    let rest = few-entries softness branches in
    omega (arith, here, rest)

-- ---- every limit that a branch has is among them
values-are : (softness : Softness) (branches : List NetBranch) → AllByRecursion (λ e. e.1 ≡ softness) (flat_map (soft_limits softness) branches)
values-are softness [] = tt
values-are softness (branch ∷ branches) =
    all-of (λ e. e.1 ≡ softness) branch.row softness (flat_map (soft_limits softness) branches) (values-are softness branches) (is_some branch.base) (is_some branch.post) (λ _. refl) (λ _. refl)

value-by : (t : Bool) (value : Option Softness) (first softness : Softness) (others : Bool) → first ≡ softness → (others ≡ true → value ≡ Some softness) → (t || others) ≡ true → cond t (Some first) value ≡ Some softness
value-by true value first softness others is rest any = ap Some is
value-by false value first softness others is rest any = rest any

lookup-value : (test : Limit → Bool) (softness : Softness) (entries : List PenaltyEntry) → AllByRecursion (λ e. e.1 ≡ softness) entries → list_any (λ e. test e.0) entries ≡ true → lookup test entries ≡ Some softness
lookup-value test softness [] are any = absurd (cc)
lookup-value test softness (entry ∷ entries) are any =
    value-by (test entry.0) (lookup test entries) entry.1 softness (list_any (λ e. test e.0) entries) are.0 (λ others. lookup-value test softness entries are.1 others) any

-- a branch has the limit that is looked for
has-limit : (test : Limit → Bool) (row : ℕ) (softness : Softness) (base post kind : Bool) (rest : List PenaltyEntry) → test (row, kind) ≡ true → (if kind then post else base) ≡ true
    → list_any (λ e. test e.0) (entries_of row softness base post ++ rest) ≡ true
has-limit test row softness true true true rest own has = or_right (test (row, false)) _ (rw own refl)
has-limit test row softness true true false rest own has = rw own refl
has-limit test row softness true false true rest own has = absurd (cc)
has-limit test row softness true false false rest own has = rw own refl
has-limit test row softness false true true rest own has = rw own refl
has-limit test row softness false true false rest own has = absurd (cc)
has-limit test row softness false false true rest own has = absurd (cc)
has-limit test row softness false false false rest own has = absurd (cc)

limit-test : (branch : NetBranch) (post : Bool) → is_some (branch_limit post branch) ≡ true → (if post then is_some branch.post else is_some branch.base) ≡ true
limit-test branch true has = has
limit-test branch false has = has

limit-same : (row other : ℕ) (post : Bool) → row ≡ other → same_limit (row, post) (other, post) ≡ true
limit-same row other true same = rw (eq-eqb row other same) refl
limit-same row other false same = rw (eq-eqb row other same) refl

limit-among : (softness : Softness) (branches : List NetBranch) (branch : NetBranch) (post : Bool) → Contains branches branch → is_some (branch_limit post branch) ≡ true
    → list_any (λ e. same_limit (branch.row, post) e.0) (flat_map (soft_limits softness) branches) ≡ true
limit-among softness [] branch post live has = absurd (let lt = live.1 in omega (arith, lt))
limit-among softness (b ∷ branches) branch post (zero, lt, at) has =
    has-limit (same_limit (branch.row, post)) b.row softness (is_some b.base) (is_some b.post) post (flat_map (soft_limits softness) branches)
    (limit-same branch.row b.row post (ap (λ (x : NetBranch). x.row) (sym at)))
    (limit-test b post (subst (λ (x : NetBranch). is_some (branch_limit post x) ≡ true) (sym at) has))
limit-among softness (b ∷ branches) branch post (suc k, lt, at) has =
    list_any-append (λ e. same_limit (branch.row, post) e.0) (soft_limits softness b) (flat_map (soft_limits softness) branches)
    ∙ or_right _ _ (limit-among softness branches branch post (k, omega (arith, lt), at) has)

pub soft-back : LawOfSoftLimits
soft-back network softness branch post live has =
    lookup-value (same_limit (branch.row, post)) softness (flat_map (soft_limits softness) network.branches) (values-are softness network.branches)
    (limit-among softness network.branches branch post live has)
