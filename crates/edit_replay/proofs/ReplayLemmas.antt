-- A replay with one step more behind it.
use Rattle.std.specs.Prelude.{◌≡◌, ℕ, ◌+◌, ◌<◌, ◌≤◌, List, [], ◌∷◌, ◌++◌, length, map, take, All, Result, Ok, Err, IfErr, refl}
use Rattle.std.proofs.Common.{suc, arith, ap, subst, sym, ◌∙◌, get_or}
use Rattle.std.proofs.lemmas.List.{map-append, take_all, take_more}
use Rattle.std.proofs.lemmas.List.Elements.{All-push}
use Rattle.fraction_theory.specs.Fraction.{Fraction}
use Rattle.market_model.specs.declared.participants.Parts.{Parts}
use Rattle.market_model.specs.Frame.{SameFrame, frame}
use Rattle.market_dict.specs.declared.taking.Taking.{Taking}
use Rattle.clear_loop.specs.Keeping.{Kept}
use Rattle.edit_table.specs.declared.Step.{Step}
use Rattle.edit_replay.specs.declared.step_outcome.StepOutcome.{StepOutcome}
use Rattle.edit_replay.specs.Replays.{FitsStep, IsEditedPart, IsReplay, IsReply, KeepsStep, KeepsSteps, edited_by, stepped}
use Rattle.edit_replay.proofs.FrameLemmas.{fits_in_frame, steps_frame}

-- ---- lists of steps
edited_last : (m : Parts) (steps : List Step) (s : Step) → edited_by m (steps ++ s ∷ []) ≡ stepped (edited_by m steps) s
edited_last m [] s = refl
edited_last m (x ∷ steps) s = edited_last (stepped m x) steps s

replay_last : (bound : ℕ) (m : Parts) (before between after : List Taking) (steps : List Step) (s : Step) (outcomes : List (StepOutcome Fraction)) (o : StepOutcome Fraction)
    → IsReplay bound m before steps outcomes between → IsReply bound (edited_by m steps) between s o after → IsReplay bound m before (steps ++ s ∷ []) (outcomes ++ o ∷ []) after
replay_last bound m before between after [] s [] o same is = (after, subst (λ (g : List Taking). IsReply bound m g s o after) same is, refl)
replay_last bound m before between after [] s (p ∷ outcomes) o none is = absurd none
replay_last bound m before between after (x ∷ steps) s [] o none is = absurd none
replay_last bound m before between after (x ∷ steps) s (p ∷ outcomes) o replay is =
    (replay.0, replay.1, replay_last bound (stepped m x) replay.0 between after steps s outcomes o replay.2 is)

pub replay_count : (bound : ℕ) (m : Parts) (before after : List Taking) (steps : List Step) (outcomes : List (StepOutcome Fraction)) → IsReplay bound m before steps outcomes after → length outcomes ≡ length steps
replay_count bound m before after [] [] replay = refl
replay_count bound m before after [] (o ∷ outcomes) none = absurd none
replay_count bound m before after (s ∷ steps) [] none = absurd none
replay_count bound m before after (s ∷ steps) (o ∷ outcomes) replay = ap suc (replay_count bound (stepped m s) replay.0 after steps outcomes replay.2)

-- ---- the first of some steps, and one more
module _ (m : Parts) (steps items : List Step) (k : ℕ) (d : Step) (same : items ≡ steps) (within : k < length steps) where
  one_more : take (k + 1) steps ≡ take k steps ++ get_or items k d ∷ []
  one_more = take_more steps k d within ∙ ap (λ (xs : List Step). take k steps ++ get_or xs k d ∷ []) (sym same)

  pub edited_more : (n new : Parts) → n ≡ edited_by m (take k steps) → new ≡ stepped n (get_or items k d) → new ≡ edited_by m (take (k + 1) steps)
  edited_more n new e next =
      next ∙ ap (λ (p : Parts). stepped p (get_or items k d)) e ∙ sym (edited_last m (take k steps) (get_or items k d)) ∙ ap (edited_by m) (sym one_more)

  pub part_more : (n new : Parts) → n ≡ edited_by m (take k steps) → new ≡ stepped n (get_or items k d) → IsEditedPart m steps new
  part_more n new e next = record { count = k + 1; few = Prim.omega (arith, within); market = edited_more n new e next }

  module _ {N : Type 0} (told : StepOutcome N → StepOutcome Fraction) (bound : ℕ) (before between after : List Taking) (outcomes new : List (StepOutcome N)) (o : StepOutcome N) where
    pub replay_more : (n : Parts) → n ≡ edited_by m (take k steps) → IsReplay bound m before (take k steps) (map told outcomes) between
        → IsReply bound n between (get_or items k d) (told o) after → new ≡ outcomes ++ o ∷ [] → IsReplay bound m before (take (k + 1) steps) (map told new) after
    replay_more n e replay is pushed =
        let last = replay_last bound m before between after (take k steps) (get_or items k d) (map told outcomes) (told o) replay
        (subst (λ (p : Parts). IsReply bound p between (get_or items k d) (told o) after) e is) in
        let all : map told new ≡ map told outcomes ++ told o ∷ [] = ap (map told) pushed ∙ map-append told outcomes (o ∷ []) in
        subst (λ (os : List (StepOutcome Fraction)). IsReplay bound m before (take (k + 1) steps) os after) (sym all)
        (subst (λ (ss : List Step). IsReplay bound m before ss (map told outcomes ++ told o ∷ []) after) (sym one_more) last)

-- what is kept, from one outcome to the next
keeps_last : {N : Type 0} (before between after : Kept) (outcomes : List (StepOutcome N)) (o : StepOutcome N) → KeepsSteps before outcomes between → KeepsStep between o after
    → KeepsSteps before (outcomes ++ o ∷ []) after
keeps_last before between after [] o same is = (after, subst (λ (k : Kept). KeepsStep k o after) same is, refl)
keeps_last before between after (p ∷ outcomes) o keeps is = (keeps.0, keeps.1, keeps_last keeps.0 between after outcomes o keeps.2 is)

pub keeps_more : {N : Type 0} (before between after : Kept) (outcomes new : List (StepOutcome N)) (o : StepOutcome N) → KeepsSteps before outcomes between → KeepsStep between o after
    → new ≡ outcomes ++ o ∷ [] → KeepsSteps before new after
keeps_more before between after outcomes new o keeps is pushed = subst (λ os. KeepsSteps before os after) (sym pushed) (keeps_last before between after outcomes o keeps is)

-- what fits each market of a frame, with one outcome more
pub fits_more : {N : Type 0} (m : Parts) (steps : List Step) (k : ℕ) (n : Parts) (outcomes new : List (StepOutcome N)) (o : StepOutcome N) → n ≡ edited_by m (take k steps)
    → ((p : Parts) → SameFrame m p → All (FitsStep p) outcomes) → FitsStep n o → new ≡ outcomes ++ o ∷ [] → (p : Parts) → SameFrame m p → All (FitsStep p) new
fits_more m steps k n outcomes new o e all fits pushed p same =
    let frames : SameFrame m n = steps_frame m (take k steps) ∙ sym (ap frame e) in
    subst (λ os. All (FitsStep p) os) (sym pushed) (All-push (FitsStep p) outcomes o (all p same) (fits_in_frame n p o (sym frames ∙ same) fits))

-- a fact that holds whatever a refusal is
pub at_refusal : {T E P : Type 0} (r : Result T E) → P → IfErr r (λ _. P)
at_refusal (Ok x) p = tt
at_refusal (Err e) p = p

-- all of them
pub edited_all : (m : Parts) (steps : List Step) (k : ℕ) (n : Parts) → length steps ≤ k → n ≡ edited_by m (take k steps) → n ≡ edited_by m steps
edited_all m steps k n h e = e ∙ ap (edited_by m) (take_all k steps h)

pub replay_all : (bound : ℕ) (m : Parts) (before after : List Taking) (steps : List Step) (outcomes : List (StepOutcome Fraction)) (k : ℕ) → length steps ≤ k
    → IsReplay bound m before (take k steps) outcomes after → IsReplay bound m before steps outcomes after
replay_all bound m before after steps outcomes k h replay = subst (λ (ss : List Step). IsReplay bound m before ss outcomes after) (take_all k steps h) replay
