-- Equal texts are of equal values: a text is taken apart at its first byte that is no digit.
use Rattle.std.specs.Prelude.{◌≡◌, ℕ, ◌<◌, ◌≤◌, ◌+◌, ◌*◌, ◌/◌, ◌%◌, ◌^◌, ◌⊎◌, ℤ, pos, negsuc, unsigned_abs, List, [], ◌∷◌, ◌++◌, length, map, Bool, true, false, cond, nat_eq, refl}
use Rattle.std.specs.Int.{IsGcd}
use Rattle.std.specs.Int.Digits.{digits_of}
use Rattle.std.specs.List.{AllByRecursion}
use Rattle.std.proofs.Common.{zero, suc, get_or, arith, ap, sym, ◌∙◌, subst, inl, inr, append_assoc}
use Rattle.std.proofs.Math.Nat.{mod-lt, div-add-mod, dvd_refl, eq-one_of_dvd-one, one-le-pow}
use Rattle.std.proofs.lemmas.Bool.Decides.{nat_tests}
use Rattle.std.proofs.lemmas.Int.Digits.{all_below_base_digits_of, first_digits_of, same_from_digits_of}
use Rattle.std.proofs.lemmas.List.{length-append}
use Rattle.std.proofs.lemmas.Nat.Gcd.{dvd_of_mod-eq-zero}
use Rattle.fraction_theory.specs.Fraction.{Fraction, same_fraction}
use Rattle.exact_fraction.specs.Written.{number_text, last_digits, trimmed_places, all_places, rest_text, units_text, sign_text, written, parts_text}
use Rattle.exact_fraction.proofs.Digits.{length-last_digits, front_below}

-- c is a decimal digit
record IsDigit (c : ℕ) : Type 0 where
  low : 48 ≤ c
  high : c ≤ 57

abbrev OnlyDigits : List ℕ → Type 0
OnlyDigits cs = AllByRecursion IsDigit cs

-- the text is empty or begins with no digit
abbrev EndsDigits : List ℕ → Type 0
EndsDigits [] = Unit {0}
EndsDigits (c ∷ cs) = ¬ (IsDigit c)

abbrev BeginsDigits : List ℕ → Type 0
BeginsDigits [] = ⊥
BeginsDigits (c ∷ cs) = IsDigit c

head_of : (c d : ℕ) (cs ds : List ℕ) → c ∷ cs ≡ d ∷ ds → c ≡ d
head_of c d cs ds e = Prim.cc

tail_of : (c d : ℕ) (cs ds : List ℕ) → c ∷ cs ≡ d ∷ ds → cs ≡ ds
tail_of c d cs ds e = Prim.cc

-- the digits at the front, and what comes after them
split : (xs us ys vs : List ℕ) → OnlyDigits xs → OnlyDigits us → EndsDigits ys → EndsDigits vs → xs ++ ys ≡ us ++ vs → (xs ≡ us) × (ys ≡ vs)
split [] [] ys vs p q r s e = (refl, e)
split [] (u ∷ us) ys vs p q r s e = absurd ((subst EndsDigits e r) q.0)
split (x ∷ xs) [] ys vs p q r s e = absurd ((subst EndsDigits (sym e) s) p.0)
split (x ∷ xs) (u ∷ us) ys vs p q r s e =
    let h = head_of x u (xs ++ ys) (us ++ vs) e in
    let t = split xs us ys vs p.1 q.1 r s (tail_of x u (xs ++ ys) (us ++ vs) e) in
    (Prim.cc (h, t.0), t.1)

OnlyDigits-append : (xs ys : List ℕ) → OnlyDigits xs → OnlyDigits ys → OnlyDigits (xs ++ ys)
OnlyDigits-append [] ys p q = q
OnlyDigits-append (x ∷ xs) ys p q = (p.0, OnlyDigits-append xs ys p.1 q)

one_digit : (n : ℕ) → n < 10 → OnlyDigits ((48 + n) ∷ [])
one_digit n h = (record { low = Prim.omega arith; high = Prim.omega arith }, tt)

OnlyDigits-map : (ds : List ℕ) → AllByRecursion (λ d. d < 10) ds → OnlyDigits (map (λ d. 48 + d) ds)
OnlyDigits-map [] h = tt
OnlyDigits-map (d ∷ ds) h = ((one_digit d h.0).0, OnlyDigits-map ds h.1)

OnlyDigits-number_text : (n : ℕ) → OnlyDigits (number_text n)
unfolding number_text
OnlyDigits-number_text zero = one_digit 0 (Prim.omega arith)
OnlyDigits-number_text (suc n) = OnlyDigits-map (digits_of 10 (suc n)) (all_below_base_digits_of 10 (suc n) (Prim.omega arith))

OnlyDigits-last_digits : (k n : ℕ) → OnlyDigits (last_digits k n)
OnlyDigits-last_digits zero n = tt
OnlyDigits-last_digits (suc k) n = OnlyDigits-append (last_digits k (n / 10)) ((48 + n % 10) ∷ []) (OnlyDigits-last_digits k (n / 10)) (one_digit (n % 10) (Prim.omega arith))

map-apart : (xs ys : List ℕ) → map (λ d. 48 + d) xs ≡ map (λ d. 48 + d) ys → xs ≡ ys
map-apart [] [] e = refl
map-apart [] (y ∷ ys) e = Prim.cc
map-apart (x ∷ xs) [] e = Prim.cc
map-apart (x ∷ xs) (y ∷ ys) e =
    let h : x ≡ y = Prim.omega (arith, head_of (48 + x) (48 + y) (map (λ d. 48 + d) xs) (map (λ d. 48 + d) ys) e) in
    let t = map-apart xs ys (tail_of (48 + x) (48 + y) (map (λ d. 48 + d) xs) (map (λ d. 48 + d) ys) e) in
    Prim.cc (h, t)

not_zero : (ds : List ℕ) → 0 < get_or ds 0 0 → ¬ (48 ∷ [] ≡ map (λ d. 48 + d) ds)
not_zero [] h e = Prim.cc
not_zero (d ∷ ds) h e = Prim.omega (arith, head_of 48 (48 + d) [] (map (λ d. 48 + d) ds) e)

number_text-apart : (m n : ℕ) → number_text m ≡ number_text n → m ≡ n
unfolding number_text
number_text-apart zero zero e = refl
number_text-apart zero (suc n) e = absurd (not_zero (digits_of 10 (suc n)) (first_digits_of 10 (suc n) (Prim.omega arith) (Prim.omega arith)) e)
number_text-apart (suc m) zero e = absurd (not_zero (digits_of 10 (suc m)) (first_digits_of 10 (suc m) (Prim.omega arith) (Prim.omega arith)) (sym e))
number_text-apart (suc m) (suc n) e = same_from_digits_of 10 (suc m) (suc n) (Prim.omega arith) (map-apart (digits_of 10 (suc m)) (digits_of 10 (suc n)) e)

push_apart : (xs ys : List ℕ) (a b : ℕ) → xs ++ a ∷ [] ≡ ys ++ b ∷ [] → (xs ≡ ys) × (a ≡ b)
push_apart [] [] a b e = (refl, head_of a b [] [] e)
push_apart [] (y ∷ []) a b e = Prim.cc
push_apart [] (y ∷ z ∷ ys) a b e = Prim.cc
push_apart (x ∷ []) [] a b e = Prim.cc
push_apart (x ∷ z ∷ xs) [] a b e = Prim.cc
push_apart (x ∷ xs) (y ∷ ys) a b e =
    let h = head_of x y (xs ++ a ∷ []) (ys ++ b ∷ []) e in
    let t = push_apart xs ys a b (tail_of x y (xs ++ a ∷ []) (ys ++ b ∷ []) e) in
    (Prim.cc (h, t.0), t.1)

same_parts : (m n d : ℕ) → m / d ≡ n / d → m % d ≡ n % d → m ≡ n
same_parts m n d e f = sym (div-add-mod m d) ∙ ap (λ (t : ℕ). d * t + m % d) e ∙ ap (λ (t : ℕ). d * (n / d) + t) f ∙ div-add-mod n d

last_digits-apart : (k m n : ℕ) → m < 10 ^ k → n < 10 ^ k → last_digits k m ≡ last_digits k n → m ≡ n
last_digits-apart zero m n p q e = Prim.omega arith
last_digits-apart (suc k) m n p q e =
    let t = push_apart (last_digits k (m / 10)) (last_digits k (n / 10)) (48 + m % 10) (48 + n % 10) e in
    same_parts m n 10 (last_digits-apart k (m / 10) (n / 10) (front_below k m p) (front_below k n q) t.0) (Prim.omega (arith, t.1))

test_true : (n : ℕ) → nat_eq n 0 ≡ true → n ≡ 0
test_true n e = Prim.grind (arith, nat_tests)

length-trimmed-le : (k n : ℕ) → length (trimmed_places k n) ≤ k + 1
length-trimmed-le zero n = Prim.omega arith
length-trimmed-le (suc k) n = by_test (nat_eq (n % 10) 0) (length-trimmed-le k (n / 10))
  where
    by_test : (b : Bool) → length (trimmed_places k (n / 10)) ≤ k + 1 → length (cond b (trimmed_places k (n / 10)) (46 ∷ last_digits (suc k) n)) ≤ suc k + 1
    by_test true h = Prim.omega arith
    by_test false h = Prim.omega (arith, length-last_digits (suc k) n)

shorter : (k m n : ℕ) → ¬ (trimmed_places k m ≡ 46 ∷ last_digits (suc k) n)
shorter k m n e = Prim.omega (arith, length-trimmed-le k m, ap (length {A = ℕ}) e, length-last_digits (suc k) n)

trimmed-apart : (k m n : ℕ) → m < 10 ^ k → n < 10 ^ k → trimmed_places k m ≡ trimmed_places k n → m ≡ n
trimmed-apart zero m n p q e = Prim.omega arith
trimmed-apart (suc k) m n p q e = by_tests (trimmed-apart k (m / 10) (n / 10) (front_below k m p) (front_below k n q)) (nat_eq (m % 10) 0) (nat_eq (n % 10) 0) refl refl e
  where
    by_tests : (trimmed_places k (m / 10) ≡ trimmed_places k (n / 10) → m / 10 ≡ n / 10) → (b c : Bool) → nat_eq (m % 10) 0 ≡ b → nat_eq (n % 10) 0 ≡ c
        → cond b (trimmed_places k (m / 10)) (46 ∷ last_digits (suc k) m) ≡ cond c (trimmed_places k (n / 10)) (46 ∷ last_digits (suc k) n) → m ≡ n
    by_tests ih true true f g e = same_parts m n 10 (ih e) (test_true (m % 10) f ∙ sym (test_true (n % 10) g))
    by_tests ih true false f g e = absurd (shorter k (m / 10) n e)
    by_tests ih false true f g e = absurd (shorter k (n / 10) m (sym e))
    by_tests ih false false f g e = last_digits-apart (suc k) m n p q (tail_of 46 46 (last_digits (suc k) m) (last_digits (suc k) n) e)

no_digit : (c : ℕ) → (c < 48) ⊎ (57 < c) → ¬ (IsDigit c)
no_digit c h d = elim h [ inl p ↦ Prim.omega (arith, p, d.low) | inr p ↦ Prim.omega (arith, p, d.high) ]

point : ¬ (IsDigit 46)
point = no_digit 46 (inl (Prim.omega arith))

slash : ¬ (IsDigit 47)
slash = no_digit 47 (inl (Prim.omega arith))

colon : ¬ (IsDigit 58)
colon = no_digit 58 (inr (Prim.omega arith))

dash : ¬ (IsDigit 45)
dash = no_digit 45 (inl (Prim.omega arith))

EndsDigits-trimmed : (k n : ℕ) → EndsDigits (trimmed_places k n)
EndsDigits-trimmed zero n = tt
EndsDigits-trimmed (suc k) n = by_test (nat_eq (n % 10) 0) (EndsDigits-trimmed k (n / 10))
  where
    by_test : (b : Bool) → EndsDigits (trimmed_places k (n / 10)) → EndsDigits (cond b (trimmed_places k (n / 10)) (46 ∷ last_digits (suc k) n))
    by_test true h = h
    by_test false h = point

EndsDigits-all : (k n r d : ℕ) → EndsDigits (all_places k n ++ rest_text r d)
EndsDigits-all zero n r d = colon
EndsDigits-all (suc k) n r d = point

-- a rest of a unit
rest-apart : (r s d e : ℕ) → rest_text r d ≡ rest_text s e → (r ≡ s) × (d ≡ e)
rest-apart r s d e h =
    let t = split (number_text r) (number_text s) (47 ∷ number_text d) (47 ∷ number_text e) (OnlyDigits-number_text r) (OnlyDigits-number_text s) slash slash (tail_of 58 58 (number_text r ++ 47 ∷ number_text d) (number_text s ++ 47 ∷ number_text e) h) in
    (number_text-apart r s t.0, number_text-apart d e (tail_of 47 47 (number_text d) (number_text e) t.1))

all-apart : (k m n r s d e : ℕ) → m < 10 ^ k → n < 10 ^ k → all_places k m ++ rest_text r d ≡ all_places k n ++ rest_text s e → (m ≡ n) × (rest_text r d ≡ rest_text s e)
all-apart zero m n r s d e p q h = (Prim.omega arith, h)
all-apart (suc k) m n r s d e p q h =
    let t = split (last_digits (suc k) m) (last_digits (suc k) n) (rest_text r d) (rest_text s e) (OnlyDigits-last_digits (suc k) m) (OnlyDigits-last_digits (suc k) n) colon colon
    (tail_of 46 46 (last_digits (suc k) m ++ rest_text r d) (last_digits (suc k) n ++ rest_text s e) h) in
    (last_digits-apart (suc k) m n p q t.0, t.1)

length-all-ge : (k n : ℕ) → k ≤ length (all_places k n)
length-all-ge zero n = Prim.omega arith
length-all-ge (suc k) n = Prim.omega (arith, length-last_digits (suc k) n)

-- a text with a rest is longer than any without
no_rest-apart : (k m n r d : ℕ) → ¬ (trimmed_places k m ≡ all_places k n ++ rest_text r d)
no_rest-apart k m n r d e =
    Prim.omega (arith, length-trimmed-le k m, length-all-ge k n, ap (length {A = ℕ}) e, length-append (all_places k n) (rest_text r d), length-append (number_text r) (47 ∷ number_text d))

-- what comes after the whole units
abbrev places_text : ℕ → ℕ → ℕ → ℕ → List ℕ
places_text k n r d = cond (nat_eq r 0) (trimmed_places k n) (all_places k n ++ rest_text r d)

record SameParts (m n r s d e : ℕ) : Type 0 where
  places : m ≡ n
  rest : r ≡ s
  parts : (r ≡ 0) ⊎ (d ≡ e)

places-apart : (k m n r s d e : ℕ) → m < 10 ^ k → n < 10 ^ k → places_text k m r d ≡ places_text k n s e → SameParts m n r s d e
places-apart k m n r s d e p q = by_tests (nat_eq r 0) (nat_eq s 0) refl refl
  where
    by_tests : (b c : Bool) → nat_eq r 0 ≡ b → nat_eq s 0 ≡ c → cond b (trimmed_places k m) (all_places k m ++ rest_text r d) ≡ cond c (trimmed_places k n) (all_places k n ++ rest_text s e) → SameParts m n r s d e
    by_tests true true f g h = record { places = trimmed-apart k m n p q h; rest = test_true r f ∙ sym (test_true s g); parts = inl (test_true r f) }
    by_tests true false f g h = absurd (no_rest-apart k m n s e h)
    by_tests false true f g h = absurd (no_rest-apart k n m r d (sym h))
    by_tests false false f g h =
        let t = all-apart k m n r s d e p q h in
        let u = rest-apart r s d e t.1 in
        record { places = t.0; rest = u.0; parts = inr u.1 }

EndsDigits-places : (k n r d : ℕ) → EndsDigits (places_text k n r d)
EndsDigits-places k n r d = by_test (nat_eq r 0)
  where
    by_test : (b : Bool) → EndsDigits (cond b (trimmed_places k n) (all_places k n ++ rest_text r d))
    by_test true = EndsDigits-trimmed k n
    by_test false = EndsDigits-all k n r d

units-apart : (k q q' r r' d d' : ℕ) → units_text k q r d ≡ units_text k q' r' d' → SameParts q q' r r' d d'
unfolding units_text
units-apart k q q' r r' d d' e =
    let h : 0 < 10 ^ k = one-le-pow k 10 (Prim.omega arith) in
    let t = split (number_text (q / 10 ^ k)) (number_text (q' / 10 ^ k)) (places_text k (q % 10 ^ k) r d) (places_text k (q' % 10 ^ k) r' d')
    (OnlyDigits-number_text (q / 10 ^ k)) (OnlyDigits-number_text (q' / 10 ^ k)) (EndsDigits-places k (q % 10 ^ k) r d) (EndsDigits-places k (q' % 10 ^ k) r' d') e in
    let u = places-apart k (q % 10 ^ k) (q' % 10 ^ k) r r' d d' (mod-lt q h) (mod-lt q' h) t.1 in
    record { places = same_parts q q' (10 ^ k) (number_text-apart (q / 10 ^ k) (q' / 10 ^ k) t.0) u.places; rest = u.rest; parts = u.parts }

BeginsDigits-number_text : (n : ℕ) (ys : List ℕ) → BeginsDigits (number_text n ++ ys)
unfolding number_text
BeginsDigits-number_text zero ys = (one_digit 0 (Prim.omega arith)).0
BeginsDigits-number_text (suc n) ys = front (digits_of 10 (suc n)) (all_below_base_digits_of 10 (suc n) (Prim.omega arith)) (first_digits_of 10 (suc n) (Prim.omega arith) (Prim.omega arith))
  where
    front : (ds : List ℕ) → AllByRecursion (λ d. d < 10) ds → 0 < get_or ds 0 0 → BeginsDigits (map (λ d. 48 + d) ds ++ ys)
    front [] h p = absurd (Prim.omega arith)
    front (d ∷ ds) h p = (one_digit d h.0).0

BeginsDigits-units : (k q r d : ℕ) → BeginsDigits (units_text k q r d)
unfolding units_text
BeginsDigits-units k q r d = BeginsDigits-number_text (q / 10 ^ k) (places_text k (q % 10 ^ k) r d)

sign-apart : (m n : ℤ) (us vs : List ℕ) → BeginsDigits us → BeginsDigits vs → sign_text m ++ us ≡ sign_text n ++ vs → (sign_text m ≡ sign_text n) × (us ≡ vs)
sign-apart (pos m) (pos n) us vs p q e = (refl, e)
sign-apart (pos m) (negsuc n) us vs p q e = absurd (dash (subst BeginsDigits e p))
sign-apart (negsuc m) (pos n) us vs p q e = absurd (dash (subst BeginsDigits (sym e) q))
sign-apart (negsuc m) (negsuc n) us vs p q e = (refl, tail_of 45 45 us vs e)

number-apart : (m n : ℤ) → sign_text m ≡ sign_text n → unsigned_abs m ≡ unsigned_abs n → m ≡ n
number-apart (pos m) (pos n) s e = ap pos e
number-apart (pos m) (negsuc n) s e = Prim.cc
number-apart (negsuc m) (pos n) s e = Prim.cc
number-apart (negsuc m) (negsuc n) s e = let h : m ≡ n = Prim.omega arith in ap negsuc h

-- a whole number of units has the denominator 1
whole_den : (s d : ℕ) → IsGcd s d 1 → s % d ≡ 0 → d ≡ 1
whole_den s d h e = eq-one_of_dvd-one (h.2 d (dvd_of_mod-eq-zero d e) (dvd_refl d))

pub written_apart : (places : ℕ) (x y : Fraction) → written places x ≡ written places y → x ≡ y
unfolding written
written_apart k x y e =
    let m : ℕ = unsigned_abs x.num in
    let n : ℕ = unsigned_abs y.num in
    let t = sign-apart x.num y.num (units_text k (m / x.den) (m % x.den) x.den) (units_text k (n / y.den) (n % y.den) y.den)
    (BeginsDigits-units k (m / x.den) (m % x.den) x.den) (BeginsDigits-units k (n / y.den) (n % y.den) y.den) e in
    let u = units-apart k (m / x.den) (n / y.den) (m % x.den) (n % y.den) x.den y.den t.1 in
    let d : x.den ≡ y.den = elim u.parts [ inl z ↦ whole_den m x.den x.lowest z ∙ sym (whole_den n y.den y.lowest (sym u.rest ∙ z)) | inr f ↦ f ] in
    let s : m ≡ n = same_parts m n y.den (ap (λ (t : ℕ). m / t) (sym d) ∙ u.places) (ap (λ (t : ℕ). m % t) (sym d) ∙ u.rest) in
    same_fraction x y (number-apart x.num y.num t.0 s) d

pub parts_apart : (x y : Fraction) → parts_text x ≡ parts_text y → x ≡ y
unfolding parts_text
parts_apart x y e =
    let m : ℕ = unsigned_abs x.num in
    let n : ℕ = unsigned_abs y.num in
    let t = sign-apart x.num y.num (number_text m ++ 47 ∷ number_text x.den) (number_text n ++ 47 ∷ number_text y.den) (BeginsDigits-number_text m (47 ∷ number_text x.den)) (BeginsDigits-number_text n (47 ∷ number_text y.den))
    (sym (append_assoc (sign_text x.num) (number_text m) (47 ∷ number_text x.den)) ∙ e ∙ append_assoc (sign_text y.num) (number_text n) (47 ∷ number_text y.den)) in
    let u = split (number_text m) (number_text n) (47 ∷ number_text x.den) (47 ∷ number_text y.den) (OnlyDigits-number_text m) (OnlyDigits-number_text n) slash slash t.1 in
    same_fraction x y (number-apart x.num y.num t.0 (number_text-apart m n u.0)) (number_text-apart x.den y.den (tail_of 47 47 (number_text x.den) (number_text y.den) u.1))
