-- Chains joined, turned round, and kept where branches are added.
use Rattle.std.proofs.Common.{◌≡◌, ℕ, List, [], ◌∷◌, ◌++◌, Bool, true, false, refl, sym, subst}
use Rattle.std.specs.Prelude.{Contains, not, if◌then◌else◌}
use Rattle.std.proofs.lemmas.List.Elements.{All-append, All-cons, All-nil, All-head, All-tail}
use Rattle.net_case.specs.declared.live_parts.NetBranch.{NetBranch}
use Rattle.net_paths.specs.declared.steps.Step.{Step}
use Rattle.net_paths.specs.Chains.{start_of, end_of, turned, Lead, Pass, AreJoined}

pub start_of-turned : (s : Step) → start_of (turned s) ≡ end_of s
start_of-turned s = by s.forward
  where
    by : (f : Bool) → (if not f then s.branch.from else s.branch.to) ≡ (if f then s.branch.to else s.branch.from)
    by true = refl
    by false = refl

pub end_of-turned : (s : Step) → end_of (turned s) ≡ start_of s
end_of-turned s = by s.forward
  where
    by : (f : Bool) → (if not f then s.branch.to else s.branch.from) ≡ (if f then s.branch.from else s.branch.to)
    by true = refl
    by false = refl

pub Lead-append : (steps more : List Step) (a b c : ℕ) → Lead steps a b → Lead more b c → Lead (steps ++ more) a c
Lead-append [] more a b c e h = subst (λ x. Lead more x c) (sym e) h
Lead-append (s ∷ steps) more a b c h k = (h.0, Lead-append steps more (end_of s) b c h.1 k)

-- the steps the other way round
turned_all : List Step → List Step
turned_all [] = []
turned_all (s ∷ steps) = turned_all steps ++ turned s ∷ []

Lead-turned : (steps : List Step) (a b : ℕ) → Lead steps a b → Lead (turned_all steps) b a
unfolding turned_all
Lead-turned [] a b e = sym e
Lead-turned (s ∷ steps) a b h =
    Lead-append (turned_all steps) (turned s ∷ []) b (end_of s) a (Lead-turned steps (end_of s) b h.1) (start_of-turned s, last)
  where
    last : end_of (turned s) ≡ a
    last = rw (end_of-turned s) h.0

Pass-turned : (branches : List NetBranch) (steps : List Step) → Pass branches steps → Pass branches (turned_all steps)
unfolding turned_all
Pass-turned branches [] h = All-nil (λ s. Contains branches s.branch)
Pass-turned branches (s ∷ steps) h =
    let P = λ (s : Step). Contains branches s.branch in
    All-append P (turned_all steps) (turned s ∷ []) (Pass-turned branches steps (All-tail P s steps h)) (All-cons P (turned s) [] (All-head P s steps h) (All-nil P))

module _ (branches : List NetBranch) where
  pub joined_itself : (a : ℕ) → AreJoined branches a a
  joined_itself a = record { steps = []; pass = All-nil (λ (s : Step). Contains branches s.branch); lead = refl }

  pub joined_sym : (a b : ℕ) → AreJoined branches a b → AreJoined branches b a
  joined_sym a b h = record { steps = turned_all h.steps; pass = Pass-turned branches h.steps h.pass; lead = Lead-turned h.steps a b h.lead }

  pub joined_trans : (a b c : ℕ) → AreJoined branches a b → AreJoined branches b c → AreJoined branches a c
  joined_trans a b c h k = record {
    steps = h.steps ++ k.steps;
    pass = All-append (λ (s : Step). Contains branches s.branch) h.steps k.steps h.pass k.pass;
    lead = Lead-append h.steps k.steps a b c h.lead k.lead;
  }

  pub joined_step : (s : Step) → Contains branches s.branch → AreJoined branches (start_of s) (end_of s)
  joined_step s h =
      let P = λ (s : Step). Contains branches s.branch in
      record { steps = s ∷ []; pass = All-cons P s [] h (All-nil P); lead = (refl, refl) }

  -- what every step keeps holds at the end of a chain
  pub kept_along : (P : ℕ → Type 0) → ((s : Step) → Contains branches s.branch → P (start_of s) → P (end_of s))
      → (steps : List Step) (a b : ℕ) → Pass branches steps → Lead steps a b → P a → P b
  kept_along P keeps [] a b pass lead here = subst P lead here
  kept_along P keeps (s ∷ steps) a b pass lead here =
      let Q = λ (s : Step). Contains branches s.branch in
      kept_along P keeps steps (end_of s) b (All-tail Q s steps pass) lead.1 (keeps s (All-head Q s steps pass) (subst P (sym lead.0) here))
