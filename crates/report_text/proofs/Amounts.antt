-- A written amount ends at the first byte that is a blank or the end of a line.
use Rattle.std.specs.Prelude.{◌≡◌, ℕ, ◌+◌, ◌<◌, ◌≤◌, ◌/◌, ◌%◌, ◌^◌, ℤ, pos, negsuc, unsigned_abs, List, [], ◌∷◌, ◌++◌, map, Bool, true, false, cond, nat_eq, refl}
use Rattle.std.specs.Int.Digits.{digits_of}
use Rattle.std.specs.List.{AllByRecursion}
use Rattle.std.proofs.Common.{zero, suc, arith, ap, sym, ◌∙◌, append_assoc}
use Rattle.std.proofs.lemmas.List.{append_cancel_left}
use Rattle.fraction_theory.specs.Fraction.{Fraction, whole}
use Rattle.exact_fraction.specs.Written.{number_text, last_digits, trimmed_places, all_places, rest_text, units_text, sign_text, written, parts_text}
use Rattle.exact_fraction.proofs.Apart.{written_apart, parts_apart}

-- bytes above the blank
abbrev AllAbove : List ℕ → Type 0
AllAbove cs = AllByRecursion (λ c. 32 < c) cs

AllAbove-append : (xs ys : List ℕ) → AllAbove xs → AllAbove ys → AllAbove (xs ++ ys)
AllAbove-append [] ys p q = q
AllAbove-append (x ∷ xs) ys p q = (p.0, AllAbove-append xs ys p.1 q)

AllAbove-map : (ds : List ℕ) → AllAbove (map (λ d. 48 + d) ds)
AllAbove-map [] = tt
AllAbove-map (d ∷ ds) = (Prim.omega arith, AllAbove-map ds)

AllAbove-number_text : (n : ℕ) → AllAbove (number_text n)
unfolding number_text
AllAbove-number_text zero = (Prim.omega arith, tt)
AllAbove-number_text (suc n) = AllAbove-map (digits_of 10 (suc n))

AllAbove-last_digits : (k n : ℕ) → AllAbove (last_digits k n)
AllAbove-last_digits zero n = tt
AllAbove-last_digits (suc k) n = AllAbove-append (last_digits k (n / 10)) ((48 + n % 10) ∷ []) (AllAbove-last_digits k (n / 10)) (Prim.omega arith, tt)

AllAbove-trimmed_places : (k n : ℕ) → AllAbove (trimmed_places k n)
AllAbove-trimmed_places zero n = tt
AllAbove-trimmed_places (suc k) n = by_test (nat_eq (n % 10) 0) (AllAbove-trimmed_places k (n / 10))
  where
    by_test : (b : Bool) → AllAbove (trimmed_places k (n / 10)) → AllAbove (cond b (trimmed_places k (n / 10)) (46 ∷ last_digits (suc k) n))
    by_test true h = h
    by_test false h = (Prim.omega arith, AllAbove-last_digits (suc k) n)

AllAbove-all_places : (k n : ℕ) → AllAbove (all_places k n)
AllAbove-all_places zero n = tt
AllAbove-all_places (suc k) n = (Prim.omega arith, AllAbove-last_digits (suc k) n)

AllAbove-rest_text : (r d : ℕ) → AllAbove (rest_text r d)
AllAbove-rest_text r d = (Prim.omega arith, AllAbove-append (number_text r) (47 ∷ number_text d) (AllAbove-number_text r) (Prim.omega arith, AllAbove-number_text d))

AllAbove-units_text : (k q r d : ℕ) → AllAbove (units_text k q r d)
unfolding units_text
AllAbove-units_text k q r d = AllAbove-append (number_text (q / 10 ^ k)) (cond (nat_eq r 0) (trimmed_places k (q % 10 ^ k)) (all_places k (q % 10 ^ k) ++ rest_text r d)) (AllAbove-number_text (q / 10 ^ k)) (by_test (nat_eq r 0))
  where
    by_test : (b : Bool) → AllAbove (cond b (trimmed_places k (q % 10 ^ k)) (all_places k (q % 10 ^ k) ++ rest_text r d))
    by_test true = AllAbove-trimmed_places k (q % 10 ^ k)
    by_test false = AllAbove-append (all_places k (q % 10 ^ k)) (rest_text r d) (AllAbove-all_places k (q % 10 ^ k)) (AllAbove-rest_text r d)

AllAbove-sign_text : (n : ℤ) → AllAbove (sign_text n)
AllAbove-sign_text (pos n) = tt
AllAbove-sign_text (negsuc n) = (Prim.omega arith, tt)

AllAbove-written : (k : ℕ) (x : Fraction) → AllAbove (written k x)
unfolding written
AllAbove-written k x =
    let q : ℕ = unsigned_abs x.num / x.den in
    let r : ℕ = unsigned_abs x.num % x.den in
    AllAbove-append (sign_text x.num) (units_text k q r x.den) (AllAbove-sign_text x.num) (AllAbove-units_text k q r x.den)

AllAbove-parts_text : (x : Fraction) → AllAbove (parts_text x)
unfolding parts_text
AllAbove-parts_text x =
    AllAbove-append (sign_text x.num ++ number_text (unsigned_abs x.num)) (47 ∷ number_text x.den)
    (AllAbove-append (sign_text x.num) (number_text (unsigned_abs x.num)) (AllAbove-sign_text x.num) (AllAbove-number_text (unsigned_abs x.num)))
    (Prim.omega arith, AllAbove-number_text x.den)

pub head_of : (c d : ℕ) (cs ds : List ℕ) → c ∷ cs ≡ d ∷ ds → c ≡ d
head_of c d cs ds e = Prim.cc

tail_of : (c d : ℕ) (cs ds : List ℕ) → c ∷ cs ≡ d ∷ ds → cs ≡ ds
tail_of c d cs ds e = Prim.cc

-- bytes above the blank, up to one that is not
cut_at : (c d : ℕ) (xs ys us vs : List ℕ) → c ≤ 32 → d ≤ 32 → AllAbove xs → AllAbove ys → xs ++ c ∷ us ≡ ys ++ d ∷ vs → (xs ≡ ys) × (c ∷ us ≡ d ∷ vs)
cut_at c d [] [] us vs h k p q e = (refl, e)
cut_at c d [] (y ∷ ys) us vs h k p q e = absurd (Prim.omega (arith, q.0, head_of c y us (ys ++ d ∷ vs) e))
cut_at c d (x ∷ xs) [] us vs h k p q e = absurd (Prim.omega (arith, p.0, head_of x d (xs ++ c ∷ us) vs e))
cut_at c d (x ∷ xs) (y ∷ ys) us vs h k p q e =
    let first = head_of x y (xs ++ c ∷ us) (ys ++ d ∷ vs) e in
    let rest = cut_at c d xs ys us vs h k p.1 q.1 (tail_of x y (xs ++ c ∷ us) (ys ++ d ∷ vs) e) in
    (Prim.cc (first, rest.0), rest.1)

-- where that is the same one
cut : (c : ℕ) (xs ys us vs : List ℕ) → c ≤ 32 → AllAbove xs → AllAbove ys → xs ++ c ∷ us ≡ ys ++ c ∷ vs → (xs ≡ ys) × (us ≡ vs)
cut c xs ys us vs h p q e = let t = cut_at c c xs ys us vs h h p q e in (t.0, tail_of c c us vs t.1)

-- an amount and what comes after it, behind which another byte may stand
pub amount_ends : (k c d : ℕ) (x y : Fraction) (us vs : List ℕ) → c ≤ 32 → d ≤ 32 → written k x ++ c ∷ us ≡ written k y ++ d ∷ vs → (x ≡ y) × (c ∷ us ≡ d ∷ vs)
amount_ends k c d x y us vs h j e =
    let t = cut_at c d (written k x) (written k y) us vs h j (AllAbove-written k x) (AllAbove-written k y) e in
    (written_apart k x y t.0, t.1)

-- an amount and what comes after it
pub amount_apart : (k c : ℕ) (x y : Fraction) (us vs : List ℕ) → c ≤ 32 → written k x ++ c ∷ us ≡ written k y ++ c ∷ vs → (x ≡ y) × (us ≡ vs)
amount_apart k c x y us vs h e =
    let t = cut c (written k x) (written k y) us vs h (AllAbove-written k x) (AllAbove-written k y) e in
    (written_apart k x y t.0, t.1)

-- a word, an amount and what comes after it
pub named_apart : (word : List ℕ) (k c : ℕ) (x y : Fraction) (us vs : List ℕ) → c ≤ 32 → word ++ (written k x ++ c ∷ us) ≡ word ++ (written k y ++ c ∷ vs) → (x ≡ y) × (us ≡ vs)
named_apart word k c x y us vs h e = amount_apart k c x y us vs h (append_cancel_left word (written k x ++ c ∷ us) (written k y ++ c ∷ vs) e)

same_number : (m n : ℕ) → number_text m ≡ number_text n → m ≡ n
unfolding parts_text whole number_text
same_number m n e = ap unsigned_abs (ap (λ (x : Fraction). x.num) (parts_apart (whole (pos m)) (whole (pos n)) (ap (λ t. t ++ 47 ∷ number_text 1) e)))

-- a number, a blank and what comes after it
pub number_apart : (m n : ℕ) (us vs : List ℕ) → number_text m ++ 32 ∷ us ≡ number_text n ++ 32 ∷ vs → (m ≡ n) × (us ≡ vs)
number_apart m n us vs e =
    let t = cut 32 (number_text m) (number_text n) us vs (Prim.omega arith) (AllAbove-number_text m) (AllAbove-number_text n) e in
    (same_number m n t.0, t.1)

-- a line that ends with an amount
pub one_apart : (front : List ℕ) (k : ℕ) (x y : Fraction) (us vs : List ℕ)
    → (front ++ written k x ++ 10 ∷ []) ++ us ≡ (front ++ written k y ++ 10 ∷ []) ++ vs → (x ≡ y) × (us ≡ vs)
one_apart front k x y us vs e =
    amount_apart k 10 x y us vs (Prim.omega arith)
    (append_cancel_left front (written k x ++ 10 ∷ us) (written k y ++ 10 ∷ vs) (sym (open_line (written k x) us) ∙ e ∙ open_line (written k y) vs))
  where
    open_line : (xs us : List ℕ) → (front ++ xs ++ 10 ∷ []) ++ us ≡ front ++ (xs ++ 10 ∷ us)
    open_line xs us = Prim.simp append_assoc

-- a line with an amount, some words and an amount
pub two_apart : (front : List ℕ) (k l c : ℕ) (middle : List ℕ) (x y w z : Fraction) (us vs : List ℕ) → c ≤ 32
    → (front ++ written k x ++ c ∷ middle ++ written l w ++ 10 ∷ []) ++ us ≡ (front ++ written k y ++ c ∷ middle ++ written l z ++ 10 ∷ []) ++ vs
    → (x ≡ y) × (w ≡ z) × (us ≡ vs)
two_apart front k l c middle x y w z us vs h e =
    let first = amount_apart k c x y (middle ++ (written l w ++ 10 ∷ us)) (middle ++ (written l z ++ 10 ∷ vs)) h
    (append_cancel_left front (written k x ++ c ∷ (middle ++ (written l w ++ 10 ∷ us))) (written k y ++ c ∷ (middle ++ (written l z ++ 10 ∷ vs)))
    (sym (open_line (written k x) (written l w) us) ∙ e ∙ open_line (written k y) (written l z) vs)) in
    let second = amount_apart l 10 w z us vs (Prim.omega arith) (append_cancel_left middle (written l w ++ 10 ∷ us) (written l z ++ 10 ∷ vs) first.1) in
    (first.0, second.0, second.1)
  where
    open_line : (xs ys us : List ℕ) → (front ++ xs ++ c ∷ middle ++ ys ++ 10 ∷ []) ++ us ≡ front ++ (xs ++ c ∷ (middle ++ (ys ++ 10 ∷ us)))
    open_line xs ys us = Prim.simp append_assoc

-- a fraction as parts and what comes after it
parts_then : (c : ℕ) (x y : Fraction) (us vs : List ℕ) → c ≤ 32 → parts_text x ++ c ∷ us ≡ parts_text y ++ c ∷ vs → (x ≡ y) × (us ≡ vs)
parts_then c x y us vs h e =
    let t = cut c (parts_text x) (parts_text y) us vs h (AllAbove-parts_text x) (AllAbove-parts_text y) e in
    (parts_apart x y t.0, t.1)

-- two fractions as parts, with a blank between them, the end of the line and what comes after it
pub parts_line_apart : (x y w z : Fraction) (us vs : List ℕ) → parts_text x ++ (32 ∷ (parts_text w ++ 10 ∷ us)) ≡ parts_text y ++ (32 ∷ (parts_text z ++ 10 ∷ vs)) → (x ≡ y) × (w ≡ z) × (us ≡ vs)
parts_line_apart x y w z us vs e =
    let first = parts_then 32 x y (parts_text w ++ 10 ∷ us) (parts_text z ++ 10 ∷ vs) (Prim.omega arith) e in
    let second = parts_then 10 w z us vs (Prim.omega arith) first.1 in
    (first.0, second.0, second.1)
