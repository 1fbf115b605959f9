-- The first place in a list that passes a test.
use Rattle.std.specs.Prelude.{◌≡◌, ◌⊎◌, ℕ, ◌+◌, ◌<◌, ◌≤◌, Bool, true, false, not, List, [], ◌∷◌, ◌++◌, length, All, Some, None, cond, nat_lt}
use Rattle.std.specs.List.{position, position_or_len}
use Rattle.std.proofs.Common.{suc, arith, inl, inr, ap, ◌∙◌}
use Rattle.std.proofs.lemmas.Bool.{cases_lt, lt-ltb, le-ltb}
use Rattle.std.proofs.lemmas.List.{append-nil}

ltb_tells : (a b : ℕ) → ((nat_lt a b ≡ true) × (a < b)) ⊎ ((nat_lt a b ≡ false) × (b ≤ a))
ltb_tells a b = by (cases_lt a b)
  where
    by : (a < b) ⊎ (b ≤ a) → ((nat_lt a b ≡ true) × (a < b)) ⊎ ((nat_lt a b ≡ false) × (b ≤ a))
    by (inl h) = inl (lt-ltb a b h, h)
    by (inr h) = inr (le-ltb a b h, h)

-- none of these passes
abbrev pub Fails : {X : Type 0} → (X → Bool) → List X → Type 0
Fails p xs = All (λ x. p x ≡ false) xs

fails-tail : {X : Type 0} (p : X → Bool) (x : X) (xs : List X) → Fails p (x ∷ xs) → Fails p xs
fails-tail p x xs h k d lt = h (suc k) d (Prim.omega (arith, lt))

fails-head : {X : Type 0} (p : X → Bool) (x : X) (xs : List X) → Fails p (x ∷ xs) → p x ≡ false
fails-head p x xs h = h 0 x (Prim.omega arith)

-- behind others that fail
len-behind : {X : Type 0} (p : X → Bool) (xs ys : List X) → Fails p xs → position_or_len p (xs ++ ys) ≡ length xs + position_or_len p ys
len-behind p [] ys h = Prim.omega arith
len-behind p (x ∷ xs) ys h = by (p x) (fails-head p x xs h) (len-behind p xs ys (fails-tail p x xs h))
  where
    by : (b : Bool) → b ≡ false → position_or_len p (xs ++ ys) ≡ length xs + position_or_len p ys
        → cond (not b) (1 + position_or_len p (xs ++ ys)) 0 ≡ length (x ∷ xs) + position_or_len p ys
    by true e ih = absurd Prim.cc
    by false e ih = Prim.omega (arith, ih)

pub position-is : {X : Type 0} (p : X → Bool) (xs : List X) (i : ℕ) → position_or_len p xs ≡ i → i < length xs → position p xs ≡ Some i
position-is p xs i e lt = ap (λ (k : ℕ). cond (nat_lt k (length xs)) (Some k) None) e ∙ by (ltb_tells i (length xs))
  where
    by : ((nat_lt i (length xs) ≡ true) × (i < length xs)) ⊎ ((nat_lt i (length xs) ≡ false) × (length xs ≤ i)) → cond (nat_lt i (length xs)) (Some i) None ≡ Some i
    by (inl t) = ap (λ (b : Bool). cond b (Some i) None) t.0
    by (inr t) = absurd (Prim.omega (arith, t.1, lt))

-- no place where none passes
pub position-none : {X : Type 0} (p : X → Bool) (xs : List X) → Fails p xs → position p xs ≡ None
position-none p xs h = by (ltb_tells (position_or_len p xs) (length xs))
  where
    all : length xs ≤ position_or_len p xs
    all = let e = len-behind p xs [] h in let f = ap (position_or_len p) (append-nil xs) in Prim.omega (arith, e, f)

    by : ((nat_lt (position_or_len p xs) (length xs) ≡ true) × (position_or_len p xs < length xs)) ⊎ ((nat_lt (position_or_len p xs) (length xs) ≡ false) × (length xs ≤ position_or_len p xs))
        → cond (nat_lt (position_or_len p xs) (length xs)) (Some (position_or_len p xs)) None ≡ None
    by (inl t) = absurd (Prim.omega (arith, t.1, all))
    by (inr t) = ap (λ (b : Bool). cond b (Some (position_or_len p xs)) None) t.0
