-- The steps at each place, with a branch more.
use Rattle.std.proofs.Common.{◌≡◌, ◌≢◌, ℕ, ◌<◌, List, [], ◌∷◌, ◌++◌, Bool, true, false, sym, subst, ◌∙◌, length, get_or, arith, length-set, inl, inr, get_or-set_same, get_or-set_other}
use Rattle.std.specs.Prelude.{Result, Ok, Err, IfOk, All, Contains}
use Rattle.std.proofs.lemmas.Bool.{cases_eq}
use Rattle.std.proofs.lemmas.List.Elements.{All-nil, All-push, All-weaker, Contains-append_left, Contains-push, Contains-push_cases}
use Rattle.net_case.specs.declared.live_parts.NetBranch.{NetBranch}
use Rattle.net_case.specs.Networks.{IsNetBranch}
use Rattle.net_paths.specs.declared.steps.Step.{Step}
use Rattle.net_paths.specs.Chains.{start_of}
use Rattle.net_paths.specs.Searching.{with_step, IsStepAt, IsIncidence}

module _ (lists : List (List Step)) (s : Step) (lt : start_of s < length lists) where
  at_start : get_or (with_step lists s) (start_of s) [] ≡ get_or lists (start_of s) [] ++ s ∷ []
  at_start = get_or-set_same lists (start_of s) (get_or lists (start_of s) [] ++ s ∷ []) [] lt

  at_other : (p : ℕ) → p ≢ start_of s → get_or (with_step lists s) p [] ≡ get_or lists p []
  at_other p ne = get_or-set_other lists (start_of s) p (get_or lists (start_of s) [] ++ s ∷ []) [] ne

  contains-kept : (p : ℕ) (t : Step) → Contains (get_or lists p []) t → Contains (get_or (with_step lists s) p []) t
  contains-kept p t h = elim (cases_eq p (start_of s)) [
    | inl e ↦ rw (e, at_start) (Contains-append_left (get_or lists (start_of s) []) (s ∷ []) t (rw e at h))
    | inr ne ↦ rw (at_other p ne) h
  ]

  contains-new : Contains (get_or (with_step lists s) (start_of s) []) s
  contains-new = rw at_start (Contains-push (get_or lists (start_of s) []) s)

  all-kept : (P : Step → Type 0) (p : ℕ) → All P (get_or lists p []) → (p ≡ start_of s → P s) → All P (get_or (with_step lists s) p [])
  all-kept P p h k = elim (cases_eq p (start_of s)) [
    | inl e ↦ rw (e, at_start) (All-push P (get_or lists (start_of s) []) s (rw e at h) (k e))
    | inr ne ↦ rw (at_other p ne) h
  ]

module _ (before : List NetBranch) (branch : NetBranch) (places : ℕ) where
  step-more : (p : ℕ) (s : Step) → IsStepAt before places p s → IsStepAt (before ++ branch ∷ []) places p s
  step-more p s h = record { branch = Contains-append_left before (branch ∷ []) s.branch h.branch; start = h.start; end = h.end }

  pub IsIncidence-add : (lists : List (List Step)) → IsIncidence before places lists → IsNetBranch places branch
      → IsIncidence (before ++ branch ∷ []) places (with_step (with_step lists (record { branch = branch; forward = true })) (record { branch = branch; forward = false }))
  IsIncidence-add lists good within = record { count = length-set mid branch.to (get_or mid branch.to [] ++ back ∷ []) ∙ mid-length ∙ good.count; sound = sound; complete = complete }
    where
      there : Step
      there = record { branch = branch; forward = true }

      back : Step
      back = record { branch = branch; forward = false }

      mid : List (List Step)
      mid = with_step lists there

      mid-length : length mid ≡ length lists
      mid-length = length-set lists branch.from (get_or lists branch.from [] ++ there ∷ [])

      from-in : branch.from < length lists
      from-in = omega (arith, within.from, good.count)

      to-in : branch.to < length mid
      to-in = omega (arith, within.to, good.count, mid-length)

      here : Contains (before ++ branch ∷ []) branch
      here = Contains-push before branch

      sound : (p : ℕ) → All (IsStepAt (before ++ branch ∷ []) places p) (get_or (with_step mid back) p [])
      sound p =
          let P = IsStepAt (before ++ branch ∷ []) places p in
          all-kept mid back to-in P p
          (all-kept lists there from-in P p (All-weaker (IsStepAt before places p) P (step-more p) (get_or lists p []) (good.sound p))
          (λ e. record { branch = here; start = sym e; end = within.to }))
          (λ e. record { branch = here; start = sym e; end = within.from })

      new : (b : NetBranch) (f : Bool) → branch ≡ b → Contains (get_or (with_step mid back) (start_of (record { branch = b; forward = f })) []) (record { branch = b; forward = f })
      new b true e = subst (λ (x : NetBranch). Contains (get_or (with_step mid back) x.from []) (record { branch = x; forward = true })) e
          (contains-kept mid back to-in branch.from there (contains-new lists there from-in))
      new b false e = subst (λ (x : NetBranch). Contains (get_or (with_step mid back) x.to []) (record { branch = x; forward = false })) e
          (contains-new mid back to-in)

      complete : (s : Step) → Contains (before ++ branch ∷ []) s.branch → Contains (get_or (with_step mid back) (start_of s) []) s
      complete s h = elim (Contains-push_cases before branch s.branch h) [
        | inl old ↦ contains-kept mid back to-in (start_of s) s (contains-kept lists there from-in (start_of s) s (good.complete s old))
        | inr e ↦ new s.branch s.forward e
      ]

-- so many buses at which no branch stands
pub IsIncidence-none : (places : ℕ) (lists : List (List Step)) → length lists ≡ places → ((p : ℕ) → get_or lists p [] ≡ []) → IsIncidence [] places lists
IsIncidence-none places lists count empty = record {
  count = count;
  sound = λ p. rw (empty p) (All-nil (IsStepAt [] places p));
  complete = λ s h. absurd (omega (arith, h.1));
}

pub if_ok : {A E : Type 0} (r : Result A E) (P Q : Type 0) → (P → Q) → IfOk r (λ _. P) → IfOk r (λ _. Q)
if_ok (Ok x) P Q f h = f h
if_ok (Err e) P Q f h = tt

-- a step that is read in the list of a place
pub step_read : (branches : List NetBranch) (places : ℕ) (lists : List (List Step)) → IsIncidence branches places lists → (place : ℕ) (items : List Step) → items ≡ get_or lists place []
    → (k : ℕ) (d : Step) → k < length items → IsStepAt branches places place (get_or items k d)
step_read branches places lists inc place items is =
    subst (λ (xs : List Step). (k : ℕ) (d : Step) → k < length xs → IsStepAt branches places place (get_or xs k d)) (sym is) (inc.sound place)

pub within : (a m n : ℕ) → a < m → n ≡ m → a < n
within a m n lt e = omega arith
