-- A loop passes no bus twice, so it has no more branches than there are buses.
use Rattle.std.proofs.Common.{◌≡◌, ◌≢◌, ◌∙◌, ℕ, suc, zero, ◌<◌, ◌≤◌, ◌==◌, Bool, true, false, List, [], ◌∷◌, ◌++◌, map, length, sym, ap, subst, refl, arith}
use Rattle.std.specs.Prelude.{All, AllPairs, Contains, eqb}
use Rattle.std.specs.List.{AllZip, list_any}
use Rattle.std.proofs.lemmas.Bool.{eqb-true}
use Rattle.std.proofs.lemmas.Bool.Decides.{Decides-eqb}
use Rattle.std.specs.Prelude.{if◌then◌else◌}
use Rattle.std.proofs.lemmas.List.{length-map}
use Rattle.std.proofs.lemmas.Bool.{false≢true}
use Rattle.std.proofs.Common.{Option, Some, None}
use Rattle.std.specs.Prelude.{not}
use Rattle.std.proofs.lemmas.List.Elements.{All-append, All-contains, All-filter}
use Rattle.std.proofs.lemmas.Map.Steps.{length-le_from_distinct_below}
use Rattle.std.proofs.lemmas.Map.Made.{IsDistinct-from_AllPairs}
use Rattle.market_data.specs.Scales.{most_buses}
use Rattle.net_case.specs.declared.live_parts.NetBranch.{NetBranch}
use Rattle.net_case.specs.Networks.{IsNetBranch}
use Rattle.net_paths.specs.declared.steps.Step.{Step}
use Rattle.net_paths.specs.declared.loops_of_tree.Member.{Member}
use Rattle.net_paths.specs.Chains.{start_of}
use Rattle.net_paths.specs.Loops.{kept, Parts, nothing, in_tree, in_rest, IsLoop, AreLoops}

head-of : {A : Type 0} (P : A → Type 0) (x : A) (xs : List A) → All P (x ∷ xs) → P x
head-of P x xs h = h 0 x (omega arith)

tail-of : {A : Type 0} (P : A → Type 0) (x : A) (xs : List A) → All P (x ∷ xs) → All P xs
tail-of P x xs h = λ k d lt. h (suc k) d (omega (arith, lt))

cons-of : {A : Type 0} (P : A → Type 0) (x : A) (xs : List A) → P x → All P xs → All P (x ∷ xs)
cons-of P x xs h t zero d lt = h
cons-of P x xs h t (suc k) d lt = t k d (omega (arith, lt))

last-of : {A : Type 0} (P : A → Type 0) (xs : List A) (x : A) → All P (xs ++ x ∷ []) → P x
last-of P [] x h = head-of P x [] h
last-of P (y ∷ xs) x h = last-of P xs x (tail-of P y (xs ++ x ∷ []) h)

front-of : {A : Type 0} (P : A → Type 0) (xs : List A) (x : A) → All P (xs ++ x ∷ []) → All P xs
front-of P [] x h = λ k d lt. absurd (omega (arith, lt))
front-of P (y ∷ xs) x h = cons-of P y xs (head-of P y (xs ++ x ∷ []) h) (front-of P xs x (tail-of P y (xs ++ x ∷ []) h))

-- what holds of all branches holds of those of the tree and of the rest
parts-all : (P : NetBranch → Type 0) (branches tree rest : List NetBranch) → Parts branches tree rest → All P branches → All P tree × All P rest
parts-all P _ _ _ nothing h = (h, h)
parts-all P _ _ _ (in_tree branches tree rest b parts apart) h =
    let before = parts-all P branches tree rest parts (front-of P branches b h) in
    (All-append P tree (b ∷ []) before.0 (cons-of P b [] (last-of P branches b h) (λ k d lt. absurd (omega (arith, lt)))), before.1)
parts-all P _ _ _ (in_rest branches tree rest b parts joined) h =
    let before = parts-all P branches tree rest parts (front-of P branches b h) in
    (before.0, All-append P rest (b ∷ []) before.1 (cons-of P b [] (last-of P branches b h) (λ k d lt. absurd (omega (arith, lt)))))

start_below : (n : ℕ) (s : Step) → IsNetBranch n s.branch → start_of s < n
start_below n s h = by s.forward
  where
    by : (forward : Bool) → (if forward then s.branch.from else s.branch.to) < n
    by true = h.from
    by false = h.to

starts_below : (n : ℕ) (tree : List NetBranch) (steps : List Step) → All (IsNetBranch n) tree → All (λ s. Contains tree s.branch) steps → All (λ p. p < n) (map start_of steps)
starts_below n tree [] ends pass = λ k d lt. absurd (omega (arith, lt))
starts_below n tree (s ∷ steps) ends pass =
    cons-of (λ p. p < n) (start_of s) (map start_of steps)
    (start_below n s (All-contains (IsNetBranch n) tree s.branch ends (head-of (λ (t : Step). Contains tree t.branch) s steps pass)))
    (starts_below n tree steps ends (tail-of (λ (t : Step). Contains tree t.branch) s steps pass))

found_below : (n : ℕ) (xs : List ℕ) → All (λ p. p < n) xs → (q : ℕ) → list_any (eqb q) xs ≡ true → q < n
found_below n [] h q e = absurd (false≢true e)
found_below n (x ∷ xs) h q e = by (eqb q x) refl (found_below n xs (tail-of (λ p. p < n) x xs h) q)
  where
    by : (t : Bool) → eqb q x ≡ t → (list_any (eqb q) xs ≡ true → q < n) → q < n
    by true is rest = subst (λ m. m < n) (sym (eqb-true q x is)) (head-of (λ p. p < n) x xs h)
    by false is rest = rest (rw is at e)

-- distinct places of so many are no more
few_places : (xs : List ℕ) (n : ℕ) → AllPairs (λ p q. p ≢ q) xs → All (λ p. p < n) xs → length xs ≤ n
few_places xs n apart below = length-le_from_distinct_below xs n (IsDistinct-from_AllPairs Decides-eqb xs apart) (found_below n xs below)

pub short_loop : (n : ℕ) (tree : List NetBranch) (b : NetBranch) (members : List Member) → All (IsNetBranch n) tree → IsNetBranch n b → IsLoop tree b members → length members ≤ n
short_loop n tree b members ends here is =
    let first : Step = record { branch = b; forward = true } in
    let below = cons-of (λ p. p < n) (start_of first) (map start_of is.back) here.from (starts_below n tree is.back ends is.pass) in
    let few = few_places (map start_of (first ∷ is.back)) n is.apart below in
    let count : length members ≡ length (first ∷ is.back) = ap length is.members_are ∙ length-map (first ∷ is.back) _ in
    let starts : length (map start_of (first ∷ is.back)) ≡ length (first ∷ is.back) = length-map (first ∷ is.back) start_of in
    omega (arith, few, count, starts)

short_loops : (n : ℕ) (tree rest : List NetBranch) (loops : List (List Member)) → All (IsNetBranch n) tree → All (IsNetBranch n) rest → AllZip (IsLoop tree) rest loops → All (λ members. length members ≤ n) loops
short_loops n tree [] [] ends rests zip = λ k d lt. absurd (omega (arith, lt))
short_loops n tree [] (l ∷ loops) ends rests zip = absurd zip
short_loops n tree (b ∷ rest) [] ends rests zip = absurd zip
short_loops n tree (b ∷ rest) (l ∷ loops) ends rests zip =
    cons-of (λ members. length members ≤ n) l loops (short_loop n tree b l ends (head-of (IsNetBranch n) b rest rests) zip.0)
    (short_loops n tree rest loops ends (tail-of (IsNetBranch n) b rest rests) zip.1)

pub loops_are_short : (n : ℕ) (branches : List NetBranch) (loops : List (List Member)) → All (IsNetBranch n) branches → AreLoops branches loops → n ≤ most_buses → All (λ members. length members ≤ most_buses) loops
loops_are_short n branches loops ends are few =
    let parts = parts-all (IsNetBranch n) branches are.tree are.rest are.parts ends in
    let short = short_loops n are.tree are.rest loops parts.0 parts.1 are.loops_are in
    λ k d lt. let at = short k d lt in omega (arith, at, few)

pub ends_kept : (n : ℕ) (lost : Option ℕ) (branches : List NetBranch) → All (IsNetBranch n) branches → All (IsNetBranch n) (kept lost branches)
ends_kept n None branches h = h
ends_kept n (Some row) branches h = All-filter (λ (b : NetBranch). not (b.row == row)) (IsNetBranch n) branches h
