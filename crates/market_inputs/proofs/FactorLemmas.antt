-- Factors that are gathered line by line: no two of one pair, and none out of range.
use Rattle.std.proofs.Common.{◌≡◌, ◌≢◌, ◌≤◌, ◌<◌, ◌+◌, ℕ, ℤ, Bool, true, false, List, [], ◌∷◌, ◌++◌, length, get_or, drop, suc, zero, refl, sym, subst, ap, ◌∙◌, arith, append_assoc, append-nil}
use Rattle.std.specs.Prelude.{◌==◌, All, AllPairs, unsigned_abs, if◌then◌else◌}
use Rattle.std.specs.List.{enumerate_from, flat_map}
use Rattle.std.proofs.lemmas.List.{drop_all, drop_more}
use Rattle.std.proofs.lemmas.List.Elements.{All-append, All-cons, All-nil, All-weaker}
use Rattle.std.proofs.lemmas.List.Kept.{AllPairs-cons}
use Rattle.market_model.specs.Market.{AreTableFactors}
use Rattle.market_model.specs.declared.participants.Factor.{Factor}
use Rattle.market_data.specs.Scales.{most_factor}
use Rattle.market_inputs.specs.Clearing.{AreSmall, factors_by, factors_of_line, unless_0}

-- ---- lists that are built piece by piece
-- what is left of a walk, once one more element is done
pub flat-step : {X Y : Type 0} (f : ℕ × X → List Y) (xs : List X) (i : ℕ) (d : X) (before done more : List Y) → i < length xs → more ≡ done ++ f (i, get_or xs i d)
    → done ++ flat_map f (enumerate_from i (drop i xs)) ≡ before → more ++ flat_map f (enumerate_from (i + 1) (drop (i + 1) xs)) ≡ before
flat-step f xs i d before done more lt is all =
    ap (λ m. m ++ flat_map f (enumerate_from (i + 1) (drop (i + 1) xs))) is
    ∙ append_assoc done (f (i, get_or xs i d)) (flat_map f (enumerate_from (i + 1) (drop (i + 1) xs)))
    ∙ ap (λ ys. done ++ flat_map f (enumerate_from i ys)) (sym (drop_more xs i d lt)) ∙ all

-- nothing is left at the end
pub flat-end : {X Y : Type 0} (f : ℕ × X → List Y) (xs : List X) (i : ℕ) (before done : List Y) → length xs ≤ i → done ++ flat_map f (enumerate_from i (drop i xs)) ≡ before → done ≡ before
flat-end f xs i before done le all = sym (append-nil done) ∙ ap (λ ys. done ++ flat_map f (enumerate_from i ys)) (sym (drop_all i xs le)) ∙ all

AllPairs-append : {X : Type 0} (R : X → X → Type 0) (xs ys : List X) → AllPairs R xs → AllPairs R ys → All (λ x. All (R x) ys) xs → AllPairs R (xs ++ ys)
AllPairs-append R [] ys a b c = b
AllPairs-append R (x ∷ xs) ys a b c =
    AllPairs-cons R x (xs ++ ys)
    (All-append (R x) xs ys (λ k d lt. a zero (suc k) d (omega arith) (omega (arith, lt))) (c zero x (omega arith)))
    (AllPairs-append R xs ys (λ i j d p q. a (suc i) (suc j) d (omega (arith, p)) (omega (arith, q))) b (λ k d lt. c (suc k) d (omega (arith, lt))))

-- ---- a factor that is not 0
unless-all : (P : Factor → Type 0) (f : Factor) → P f → All P (unless_0 f)
unless-all P f h = by (unsigned_abs f.value == 0)
  where
    by : (b : Bool) → All P (if b then [] else f ∷ [])
    by true = All-nil P
    by false = All-cons P f [] h (All-nil P)

-- small factors with one more
pub small-more : (done more : List Factor) (f : Factor) → AreSmall done → unsigned_abs f.value ≤ most_factor → more ≡ done ++ unless_0 f → AreSmall more
small-more done more f small size is =
    let P : Factor → Type 0 = λ g. unsigned_abs g.value ≤ most_factor in
    subst (All P) (sym is) (All-append P done (unless_0 f) small (unless-all P f size))

unless-pairs : (R : Factor → Factor → Type 0) (f : Factor) → AllPairs R (unless_0 f)
unless-pairs R f = by (unsigned_abs f.value == 0)
  where
    by : (b : Bool) → AllPairs R (if b then [] else f ∷ [])
    by true = λ i j d p q. absurd (omega (arith, q))
    by false = λ i j d p q. absurd (omega (arith, p, q))

-- ---- the factors of a line
-- two factors are not of one pair
abbrev Apart : Factor → Factor → Type 0
Apart f g = f.line ≡ g.line → f.of ≢ g.of

-- a factor of this line, for a place from low up to high
record IsOf (line low high : ℕ) (f : Factor) : Type 0 where
  is : f.line ≡ line
  least : low ≤ f.of
  below : f.of < high

module _ {B : Type 0} (value : B → ℤ) (line : ℕ) where
  -- the factor at a place
  abbrev here : ℕ × B → Factor
  here other = record { line = line; of = other.0; value = value other.1 }

  abbrev from : ℕ → List B → List Factor
  from k others = flat_map (λ (other : ℕ × B). unless_0 (here other)) (enumerate_from k others)

  line-of : (k high : ℕ) (others : List B) → k + length others ≤ high → All (IsOf line k high) (from k others)
  line-of k high [] le = All-nil (IsOf line k high)
  line-of k high (x ∷ xs) le =
      All-append (IsOf line k high) (unless_0 (here (k, x))) (from (k + 1) xs)
      (unless-all (IsOf line k high) (here (k, x)) (record { is = refl; least = omega arith; below = omega (arith, le) }))
      (All-weaker (IsOf line (k + 1) high) (IsOf line k high) (λ f h. record { is = h.is; least = omega (arith, h.least); below = h.below }) (from (k + 1) xs) (line-of (k + 1) high xs (omega (arith, le))))

  line-apart : (k : ℕ) (others : List B) → AllPairs Apart (from k others)
  line-apart k [] = λ i j d p q. absurd (omega (arith, q))
  line-apart k (x ∷ xs) =
      AllPairs-append Apart (unless_0 (here (k, x))) (from (k + 1) xs) (unless-pairs Apart (here (k, x))) (line-apart (k + 1) xs)
      (unless-all (λ f. All (Apart f) (from (k + 1) xs)) (here (k, x))
      (All-weaker (IsOf line (k + 1) (k + 1 + length xs)) (Apart (here (k, x))) (λ f h _ same. absurd (omega (arith, h.least, same))) (from (k + 1) xs) (line-of (k + 1) (k + 1 + length xs) xs (omega arith))))

-- ---- the factors of all lines
-- a factor of a line from low up to high, for one of so many places
record IsAt (low high others : ℕ) (f : Factor) : Type 0 where
  least : low ≤ f.line
  below : f.line < high
  of : f.of < others

module _ {A B : Type 0} (value : A → B → ℤ) (others : List B) where
  abbrev all_from : ℕ → List A → List Factor
  all_from k lines = flat_map (λ (line : ℕ × A). factors_of_line (value line.1) line.0 others) (enumerate_from k lines)

  -- those of the line at a place
  at_place : (k : ℕ) (x : A) → All (IsOf k 0 (length others)) (factors_of_line (value x) k others)
  at_place k x = line-of (value x) k 0 (length others) others (omega arith)

  all-at : (k high : ℕ) (lines : List A) → k + length lines ≤ high → All (IsAt k high (length others)) (all_from k lines)
  all-at k high [] le = All-nil (IsAt k high (length others))
  all-at k high (x ∷ xs) le =
      All-append (IsAt k high (length others)) (factors_of_line (value x) k others) (all_from (k + 1) xs)
      (All-weaker (IsOf k 0 (length others)) (IsAt k high (length others)) (λ f h. record { least = omega (arith, h.is); below = omega (arith, h.is, le); of = h.below }) (factors_of_line (value x) k others) (at_place k x))
      (All-weaker (IsAt (k + 1) high (length others)) (IsAt k high (length others)) (λ f h. record { least = omega (arith, h.least); below = h.below; of = h.of }) (all_from (k + 1) xs) (all-at (k + 1) high xs (omega (arith, le))))

  all-apart : (k : ℕ) (lines : List A) → AllPairs Apart (all_from k lines)
  all-apart k [] = λ i j d p q. absurd (omega (arith, q))
  all-apart k (x ∷ xs) =
      AllPairs-append Apart (factors_of_line (value x) k others) (all_from (k + 1) xs) (line-apart (value x) k 0 others) (all-apart (k + 1) xs)
      (All-weaker (IsOf k 0 (length others)) (λ f. All (Apart f) (all_from (k + 1) xs))
      (λ f h. All-weaker (IsAt (k + 1) (k + 1 + length xs) (length others)) (Apart f) (λ g at same. absurd (omega (arith, h.is, at.least, same))) (all_from (k + 1) xs) (all-at (k + 1) (k + 1 + length xs) xs (omega arith)))
      (factors_of_line (value x) k others) (at_place k x))

  -- factors that are gathered line by line are those of a market
  pub factors_by-are : (lines : List A) → AreSmall (factors_by value lines others) → AreTableFactors (length lines) (length others) (factors_by value lines others)
  factors_by-are lines small = record {
    each = λ i d lt.
        let at : IsAt 0 (length lines) (length others) (get_or (factors_by value lines others) i d) = all-at 0 (length lines) lines (omega arith) i d lt in
        record { line = at.below; of = at.of; size = small i d lt };
    distinct = all-apart 0 lines;
  }
