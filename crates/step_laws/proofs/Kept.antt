-- The parts that have a width, of parts by place.
use Rattle.std.specs.Prelude.{◌≡◌, ℕ, ◌+◌, ◌<◌, ℤ, ◌≤ℤ◌, ◌<ℤ◌, int_lt, Bool, true, false, cond, List, [], ◌∷◌, ◌++◌, length, map}
use Rattle.std.specs.List.{filter, range_with_len, All}
use Rattle.std.proofs.Common.{zero, suc, arith, ap, sym, ◌∙◌, subst, refl, length-append}
use Rattle.std.proofs.lemmas.Int.{ints}
use Rattle.std.proofs.lemmas.List.{append-nil}
use Rattle.std.proofs.lemmas.List.Elements.{All-append, All-cons, All-nil}
use Rattle.std.proofs.lemmas.List.FromFn.{filter_of_map_range_with_len_more}
use Rattle.cost_steps.specs.Parts.{Part, has_width}

abbrev pub kept : (ℕ → Part) → ℕ → List Part
kept part n = filter has_width (map part (range_with_len 0 n))

-- what one more place adds
abbrev pub added : Part → List Part
added part = cond (has_width part) (part ∷ []) []

pub kept_more : (part : ℕ → Part) (k : ℕ) → kept part (suc k) ≡ kept part k ++ added (part k)
kept_more part k = subst (λ t. kept part t ≡ kept part k ++ added (part k)) next (filter_of_map_range_with_len_more has_width part 0 k k (omega arith))
  where
    next : k + 1 ≡ suc k
    next = omega arith

pub width_above : (part : Part) → has_width part ≡ true → part.from <ℤ part.to
width_above part e = tested part.from part.to e
  where
    tested : (x y : ℤ) → int_lt x y ≡ true → x <ℤ y
    tested x y e = grind (arith, ints)

pub width_none : (part : Part) → has_width part ≡ false → part.to ≤ℤ part.from
width_none part e = tested part.from part.to e
  where
    tested : (x y : ℤ) → int_lt x y ≡ false → y ≤ℤ x
    tested x y e = grind (arith, ints)

-- what holds of each part with a width
pub kept_all : (P : Part → Type 0) (part : ℕ → Part) (n : ℕ) → ((k : ℕ) → k < n → (part k).from <ℤ (part k).to → P (part k)) → All P (kept part n)
kept_all P part zero h = All-nil P
kept_all P part (suc k) h =
    subst (All P) (sym (kept_more part k)) (All-append P (kept part k) (added (part k)) (kept_all P part k (λ i lt. h i (omega (arith, lt)))) (by (has_width (part k)) refl))
  where
    by : (b : Bool) → has_width (part k) ≡ b → All P (cond b (part k ∷ []) [])
    by true e = All-cons P (part k) [] (h k (omega arith) (width_above (part k) e)) (All-nil P)
    by false e = All-nil P

pub wide : (part : Part) → part.from <ℤ part.to → has_width part ≡ true
wide part h = tested part.from part.to h
  where
    tested : (x y : ℤ) → x <ℤ y → int_lt x y ≡ true
    tested x y h = grind (arith, ints)

pub narrow : (part : Part) → part.to ≤ℤ part.from → has_width part ≡ false
narrow part h = tested part.from part.to h
  where
    tested : (x y : ℤ) → y ≤ℤ x → int_lt x y ≡ false
    tested x y h = grind (arith, ints)

-- none are kept where none has a width, and all where each has one
pub none_kept : (part : ℕ → Part) (n : ℕ) → ((k : ℕ) → k < n → (part k).to ≤ℤ (part k).from) → kept part n ≡ []
none_kept part zero h = refl
none_kept part (suc k) h = kept_more part k ∙ ap (λ (b : Bool). kept part k ++ cond b (part k ∷ []) []) (narrow (part k) (h k (omega arith))) ∙ append-nil (kept part k) ∙ none_kept part k (λ i lt. h i (omega (arith, lt)))

pub more_wide : (part : ℕ → Part) (k : ℕ) → (part k).from <ℤ (part k).to → kept part (suc k) ≡ kept part k ++ part k ∷ []
more_wide part k h = kept_more part k ∙ ap (λ (b : Bool). kept part k ++ cond b (part k ∷ []) []) (wide (part k) h)

pub all_kept : (part : ℕ → Part) (n : ℕ) → ((k : ℕ) → k < n → (part k).from <ℤ (part k).to) → length (kept part n) ≡ n
all_kept part zero h = refl
all_kept part (suc k) h =
    let rest = all_kept part k (λ i lt. h i (omega (arith, lt))) in
    ap length (more_wide part k (h k (omega arith))) ∙ length-append (kept part k) (part k ∷ []) ∙ ap (λ t. t + 1) rest ∙ next
  where
    next : k + 1 ≡ suc k
    next = omega arith
