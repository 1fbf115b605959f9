-- Entries by pair, and the rows that are marked.
use Rattle.std.proofs.Common.{◌≡◌, ◌≢◌, ℕ, ◌≤◌, ◌<◌, ◌^◌, ◌++◌, ◌∷◌, [], ℤ, pos, List, length, get_or, arith, refl, sym, Option, Some, None, Bool, true, false, All, inl, inr, w64}
use Rattle.std.specs.Prelude.{◌==◌, ◌&&◌, ◌||◌, ◌⊎◌, Contains, is_some, IfSome, slice_set, unsigned_abs, unwrap_or}
use Rattle.std.specs.List.{list_any}
use Rattle.std.specs.Map.{lookup}
use mir.Val.{to_z, of_z}
use Rattle.std.proofs.lemmas.Int.{to_z-of_z}
use Rattle.std.proofs.lemmas.Map.Views.{Contains-from_lookup}
use Rattle.std.proofs.lemmas.Bool.{eq-eqb, eqb-true, eqb-false}
use Rattle.std.proofs.lemmas.List.{get_or-set_same, get_or-set_other}
use Rattle.std.proofs.lemmas.List.Folds.{list_any-append}
use Rattle.std.proofs.lemmas.List.Elements.{All-append, All-cons, All-nil}
use Rattle.std.proofs.lemmas.Map.Entries.{place_from_lookup}
use Rattle.std.proofs.lemmas.Option.{slice_get_within, get_or_from_slice_get}
use Rattle.factor_tables.specs.declared.by_pair.Column.{Column}
use Rattle.factor_tables.specs.declared.by_pair.Pairs.{Pairs}
use Rattle.market_data.proofs.Data.{datum_fits}
use Rattle.market_data.specs.Scales.{most_factor}
use Rattle.factor_tables.proofs.KeyLemmas.{once-push}
use Rattle.factor_tables.specs.Factors.{ArePairFactors, Entry, IsFactorOfPair, Pair, factor_at, has_pair, marked_row, same_pair}

pub is-none : {X : Type 0} (o : Option X) → is_some o ≡ false → o ≡ None
is-none None none = refl
is-none (Some x) none = cc

-- what is found by a key is of the list
pub lookup-all : {K X : Type 0} (P : X → Type 0) (test : K → Bool) (entries : List (K × X)) → All (λ entry. P entry.1) entries → IfSome (lookup test entries) P
lookup-all {K} {X} P test entries all = by (lookup test entries) refl
  where
    by : (o : Option X) → lookup test entries ≡ o → IfSome o P
    by None found = tt
    by (Some x) found =
        let (i, k, at, passes) = place_from_lookup test entries x found in
        let lt = slice_get_within entries i (k, x) at in
        let here = get_or_from_slice_get entries i (k, x) (k, x) at in
        rw here at (all i (k, x) lt)

-- the size of a factor that is looked up
pub factor_at-size : (entries : List Entry) (pair : Pair) → All (λ entry. unsigned_abs entry.1 ≤ most_factor) entries → unsigned_abs (factor_at entries pair) ≤ most_factor
factor_at-size entries pair sizes = by (lookup (same_pair pair) entries) (lookup-all (λ (f : ℤ). unsigned_abs f ≤ most_factor) (same_pair pair) entries sizes)
  where
    by : (o : Option ℤ) → IfSome o (λ f. unsigned_abs f ≤ most_factor) → unsigned_abs (unwrap_or o (pos 0)) ≤ most_factor
    by None small = omega arith
    by (Some f) small = small

-- it is a machine number
pub factor_at-fits : (entries : List Entry) (pair : Pair) → All (λ entry. unsigned_abs entry.1 ≤ most_factor) entries → to_z w64 (of_z w64 (factor_at entries pair)) ≡ factor_at entries pair
factor_at-fits entries pair sizes =
    let small = factor_at-size entries pair sizes in
    let datum : unsigned_abs (factor_at entries pair) < 2 ^ 63 = omega (arith, small) in
    to_z-of_z w64 _ (datum_fits _ datum)

-- equal pairs are the same
pub one_pair : (p q : Pair) → same_pair p q ≡ true → p ≡ q
one_pair (a, b) (c, d) same =
    let (first, second) = both (a == c) (b == d) same in
    let left : a ≡ c = eqb-true a c first in
    let right : b ≡ d = eqb-true b d second in
    cc
  where
    both : (x y : Bool) → (x && y) ≡ true → (x ≡ true) × (y ≡ true)
    both true y passes = (refl, passes)
    both false y passes = cc

-- a pair's factor is that of a record, or 0
pub factor_at-means : (entries : List Entry) (pair : Pair) → IsFactorOfPair entries pair (factor_at entries pair)
factor_at-means entries pair = by (lookup (same_pair pair) entries) refl
  where
    by : (o : Option ℤ) → lookup (same_pair pair) entries ≡ o → Contains entries (pair, unwrap_or o (pos 0)) ⊎ ((is_some o ≡ false) × (unwrap_or o (pos 0) ≡ pos 0))
    by None none = inr (refl, refl)
    by (Some f) found = inl (Contains-from_lookup one_pair pair f entries found)

its_own : (p : Pair) → same_pair p p ≡ true
its_own (a, b) = let first = eq-eqb a a refl in let second = eq-eqb b b refl in rw (first, second) refl

-- one record more, and its row marked
marked-push : (kind : Column) (rows : List Bool) (entries : List Entry) (entry : Entry) (row : ℕ) → row ≡ marked_row kind entry.0 → row < length rows
    → ((k : ℕ) → get_or rows k false ≡ list_any (λ e. marked_row kind e.0 == k) entries)
    → (k : ℕ) → get_or (slice_set rows row true) k false ≡ list_any (λ e. marked_row kind e.0 == k) (entries ++ entry ∷ [])
marked-push kind rows entries entry row is lt marked k = rw (list_any-append (λ (e : Entry). marked_row kind e.0 == k) entries (entry ∷ []), ← is) (by (row == k) refl)
  where
    or-true : (b : Bool) → true ≡ (b || (true || false))
    or-true true = refl
    or-true false = refl

    or-false : (b : Bool) → b ≡ (b || (false || false))
    or-false true = refl
    or-false false = refl

    by : (same : Bool) → (row == k) ≡ same → get_or (slice_set rows row true) k false ≡ (list_any (λ e. marked_row kind e.0 == k) entries || ((row == k) || false))
    by true same = let here : row ≡ k = eqb-true _ _ same in rw (same, ← here, get_or-set_same rows row true false lt) (or-true _)
    by false same = let other : k ≢ row = λ h. eqb-false _ _ same (sym h) in rw (same, get_or-set_other rows row k true false other, marked k) (or-false _)

pub factors-push : (kind : Column) (old new : Pairs) (entry : Entry) (row : ℕ) → ArePairFactors kind old → has_pair old.by_pair.entries entry.0 ≡ false → row ≡ marked_row kind entry.0 → row < length old.marked.items
    → unsigned_abs entry.1 ≤ most_factor → new.by_pair.entries ≡ old.by_pair.entries ++ entry ∷ [] → new.marked.items ≡ slice_set old.marked.items row true → ArePairFactors kind new
factors-push kind old new entry row are fresh is lt small entries marked = record {
  marked = λ k. rw (entries, marked) (marked-push kind old.marked.items old.by_pair.entries entry row is lt are.marked k);
  once = rw entries (once-push same_pair its_own old.by_pair.entries entry are.once fresh);
  sizes = rw entries (All-append (λ (e : Entry). unsigned_abs e.1 ≤ most_factor) old.by_pair.entries (entry ∷ []) are.sizes (All-cons (λ (e : Entry). unsigned_abs e.1 ≤ most_factor) entry [] small (All-nil _)));
}

pub factors-none : (kind : Column) (pairs : Pairs) → pairs.by_pair.entries ≡ [] → ((k : ℕ) → get_or pairs.marked.items k false ≡ false) → ArePairFactors kind pairs
factors-none kind pairs none unmarked = record {
  marked = λ k. rw none (unmarked k);
  once = rw none (λ i j d lt within. absurd (omega (arith, within)));
  sizes = rw none (All-nil _);
}
