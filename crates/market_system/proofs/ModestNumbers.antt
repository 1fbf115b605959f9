-- Whole numbers of at most some size, their sums and products, and sums of lists of such.
use Rattle.std.specs.Prelude.{◌≡◌, ℕ, ◌+◌, ◌*◌, ◌≤◌, ℤ, pos, ◌+ℤ◌, ◌*ℤ◌, neg_ℤ, List, [], ◌∷◌, ◌++◌, length, map, filter, cond, Bool, true, false, unsigned_abs, refl}
use Rattle.std.specs.List.{Contains}
use Rattle.std.proofs.Common.{zero, suc, arith, ap, sym, ◌∙◌, subst, inl, inr}
use mathlib.Core.Path.{ap₂}
use Rattle.std.proofs.lemmas.Int.{ints, unsigned_abs-mul}
use Rattle.std.proofs.lemmas.Nat.{mul-le}
use Rattle.fraction_theory.specs.Fraction.{Fraction, whole, neg_ℚ, ◌+ℚ◌, ◌*ℚ◌, unsigned_abs-neg}
use Rattle.fraction_theory.specs.Sums.{Term, term_value, prefix}
use Rattle.fraction_theory.proofs.FieldLaws.{whole-+ℚ, whole-*ℚ, whole-neg}
use Rattle.fraction_theory.proofs.ListSums.{Contains-head, Contains-cons}
use Rattle.exact_fraction.specs.Passes.{IsTooLarge}
use Rattle.market_model.specs.NamedSums.{SameSize}

-- a whole number of at most this size
pub record IsWholeWithin (bound : ℕ) (x : Fraction) : Type 0 where
  pub number : ℤ
  pub is : x ≡ whole number
  pub within : unsigned_abs number ≤ bound

pub whole_within : (b : ℕ) (z : ℤ) → unsigned_abs z ≤ b → IsWholeWithin b (whole z)
whole_within b z h = record { number = z; is = refl; within = h }

pub nil_within : (b : ℕ) → IsWholeWithin b (whole (pos 0))
nil_within b = whole_within b (pos 0) (Prim.omega arith)

pub wider : (b c : ℕ) (x : Fraction) → b ≤ c → IsWholeWithin b x → IsWholeWithin c x
wider b c x le h = record { number = h.number; is = h.is; within = Prim.omega (arith, le, h.within) }

pub neg_within : (b : ℕ) (x : Fraction) → IsWholeWithin b x → IsWholeWithin b (neg_ℚ x)
neg_within b x h = record { number = neg_ℤ h.number; is = ap neg_ℚ h.is ∙ sym (whole-neg h.number); within = Prim.omega (arith, unsigned_abs-neg h.number, h.within) }

pub plus_within : (b c : ℕ) (x y : Fraction) → IsWholeWithin b x → IsWholeWithin c y → IsWholeWithin (b + c) (x +ℚ y)
plus_within b c x y h k = record {
  number = h.number +ℤ k.number;
  is = ap₂ ◌+ℚ◌ h.is k.is ∙ sym (whole-+ℚ h.number k.number);
  within = Prim.omega (arith, ints, h.within, k.within);
}

pub times_within : (b c : ℕ) (x y : Fraction) → IsWholeWithin b x → IsWholeWithin c y → IsWholeWithin (b * c) (x *ℚ y)
times_within b c x y h k = record {
  number = h.number *ℤ k.number;
  is = ap₂ ◌*ℚ◌ h.is k.is ∙ sym (whole-*ℚ h.number k.number);
  within = subst (λ t. t ≤ b * c) (sym (unsigned_abs-mul h.number k.number)) (mul-le (unsigned_abs h.number) (unsigned_abs k.number) b c h.within k.within);
}

-- the same size
pub same_within : (b : ℕ) (x y : Fraction) → SameSize x y → IsWholeWithin b y → IsWholeWithin b x
same_within b x y (inl e) h = subst (IsWholeWithin b) (sym e) h
same_within b x y (inr e) h = subst (IsWholeWithin b) (sym e) (neg_within b y h)

-- such a number is not too large
whole_fits : (b : ℕ) (z : ℤ) → 1 ≤ b → unsigned_abs z ≤ b → ¬ (IsTooLarge b (whole z))
unfolding whole
whole_fits b z one h (inl p) = Prim.omega (arith, h, p)
whole_fits b z one h (inr p) = Prim.omega (arith, one, p)

pub number_fits : (b : ℕ) (x : Fraction) → 1 ≤ b → IsWholeWithin b x → ¬ (IsTooLarge b x)
number_fits b x one h p = whole_fits b h.number one h.within (subst (IsTooLarge b) h.is p)

-- each term of a list is a whole number of at most this size
abbrev pub TermsWithin : ℕ → List Term → Type 0
TermsWithin b [] = Unit {0}
TermsWithin b (t ∷ ts) = IsWholeWithin b (term_value t) × TermsWithin b ts

pub append_within : (b : ℕ) (ts us : List Term) → TermsWithin b ts → TermsWithin b us → TermsWithin b (ts ++ us)
append_within b [] us h k = k
append_within b (t ∷ ts) us h k = (h.0, append_within b ts us h.1 k)

pub map_within : (b : ℕ) (f : ℕ → Term) (xs : List ℕ) → ((x : ℕ) → Contains xs x → IsWholeWithin b (term_value (f x))) → TermsWithin b (map f xs)
map_within b f [] h = tt
map_within b f (x ∷ xs) h = (h x (Contains-head x xs), map_within b f xs (λ y c. h y (Contains-cons x xs y c)))

-- the first terms of at most so many
prefix_by_length : (b k : ℕ) (ts : List Term) → TermsWithin b ts → IsWholeWithin (length ts * b) (prefix k ts)
prefix_by_length b zero ts h = nil_within (length ts * b)
prefix_by_length b (suc k) [] h = nil_within (length {A = Term} [] * b)
prefix_by_length b (suc k) (t ∷ ts) h =
    wider (b + length ts * b) (suc (length ts) * b) (prefix (suc k) (t ∷ ts)) (Prim.omega arith)
    (plus_within b (length ts * b) (term_value t) (prefix k ts) h.0 (prefix_by_length b k ts h.1))

pub prefix_within : (n b k : ℕ) (ts : List Term) → length ts ≤ n → TermsWithin b ts → IsWholeWithin (n * b) (prefix k ts)
prefix_within n b k ts le h = wider (length ts * b) (n * b) (prefix k ts) (mul-le (length ts) b n b le (Prim.omega arith)) (prefix_by_length b k ts h)

pub length-filter_le : (p : ℕ → Bool) (xs : List ℕ) → length (filter p xs) ≤ length xs
length-filter_le p [] = Prim.omega arith
length-filter_le p (x ∷ xs) = one_more (p x) (length-filter_le p xs)
  where
    one_more : (b : Bool) → length (filter p xs) ≤ length xs → length (cond b (x ∷ filter p xs) (filter p xs)) ≤ suc (length xs)
    one_more true h = Prim.omega (arith, h)
    one_more false h = Prim.omega (arith, h)
