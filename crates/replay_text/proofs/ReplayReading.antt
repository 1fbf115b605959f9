-- Equal texts of replays are of equal outcomes.
use Rattle.std.specs.Prelude.{◌≡◌, ℕ, ◌+◌, List, [], ◌∷◌, ◌++◌, codes, decimal, refl}
use Rattle.std.proofs.Common.{arith, ap, sym, ◌∙◌, append_assoc}
use Rattle.std.proofs.lemmas.List.{append_cancel_left}
use Rattle.fraction_theory.specs.Fraction.{Fraction}
use Rattle.market_model.specs.declared.participants.Parts.{Parts}
use Rattle.market_system.proofs.Completeness.{right_by}
use Rattle.market_dict.specs.declared.taking.Taking.{Taking}
use Rattle.offer_book.specs.declared.edit_parts.EditFault.{EditFault}
use Rattle.edit_table.specs.declared.Step.{Step}
use Rattle.edit_table.specs.declared.Step.TheVariants as step
use Rattle.edit_replay.specs.declared.step_outcome.StepOutcome.{StepOutcome}
use Rattle.edit_replay.specs.declared.step_outcome.StepOutcome.TheVariants as reply
use Rattle.edit_replay.specs.Replays.{IsReplay, IsReply, stepped}
use Rattle.report_text.specs.Reports.{report_text}
use Rattle.report_text.proofs.OutcomeReading.{outcome_fits, outcomes_apart}
use Rattle.report_text.proofs.ReserveReading.{EndsDuals}
use Rattle.replay_text.specs.ReplayTexts.{came_to_text, fault_text, step_text, steps_text}
use Rattle.replay_text.specs.ReplayTextLaws.{OutcomesFit, ReplaysApart, ReplaysReadApart, StepOutcomeFits}
use Rattle.replay_text.proofs.FaultReading.{faults_apart, next_letter}

-- ---- one step, and what follows it
refused_apart : (m : Parts) (f g : EditFault) (us vs : List ℕ) → came_to_text m (reply.Refused f) ++ us ≡ came_to_text m (reply.Refused g) ++ vs → (f ≡ g) × (us ≡ vs)
refused_apart m f g us vs e =
    let opened = λ (x : EditFault) (ts : List ℕ). in_order (codes " edit refused ") (fault_text x) (codes "\n") ts in
    faults_apart f g us vs (append_cancel_left (codes " edit refused ") (fault_text f ++ 10 ∷ us) (fault_text g ++ 10 ∷ vs) (sym (opened f us) ∙ e ∙ opened g vs))
  where
    in_order : (a t n ts : List ℕ) → (a ++ t ++ n) ++ ts ≡ a ++ (t ++ (n ++ ts))
    in_order a t n ts = Prim.simp append_assoc

came_to_apart : (m : Parts) (o p : StepOutcome Fraction) → StepOutcomeFits m o → StepOutcomeFits m p → (us vs : List ℕ) → EndsDuals us → EndsDuals vs
    → came_to_text m o ++ us ≡ came_to_text m p ++ vs → (o ≡ p) × (us ≡ vs)
came_to_apart m reply.Accepted reply.Accepted k l us vs g h e = (refl, append_cancel_left (codes " edit accepted\n") us vs e)
came_to_apart m reply.Accepted (reply.Refused f) k l us vs g h e = absurd (Prim.omega (arith, next_letter (codes " edit ") 97 114 _ _ e))
came_to_apart m reply.Accepted (reply.Clear b) k l us vs g h e = absurd (Prim.omega (arith, next_letter (codes " ") 101 99 _ _ e))
came_to_apart m (reply.Refused f) reply.Accepted k l us vs g h e = absurd (Prim.omega (arith, next_letter (codes " edit ") 114 97 _ _ e))
came_to_apart m (reply.Refused f) (reply.Refused x) k l us vs g h e = let t = refused_apart m f x us vs e in (ap reply.Refused t.0, t.1)
came_to_apart m (reply.Refused f) (reply.Clear b) k l us vs g h e = absurd (Prim.omega (arith, next_letter (codes " ") 101 99 _ _ e))
came_to_apart m (reply.Clear a) reply.Accepted k l us vs g h e = absurd (Prim.omega (arith, next_letter (codes " ") 99 101 _ _ e))
came_to_apart m (reply.Clear a) (reply.Refused f) k l us vs g h e = absurd (Prim.omega (arith, next_letter (codes " ") 99 101 _ _ e))
came_to_apart m (reply.Clear a) (reply.Clear b) k l us vs g h e =
    let t = outcomes_apart m a b k l us vs g h (append_cancel_left (codes " clear\n") (report_text m a ++ us) (report_text m b ++ vs) e) in
    (ap reply.Clear t.0, t.1)

step_apart : (number : ℕ) (m : Parts) (o p : StepOutcome Fraction) → StepOutcomeFits m o → StepOutcomeFits m p → (us vs : List ℕ) → EndsDuals us → EndsDuals vs
    → step_text number m o ++ us ≡ step_text number m p ++ vs → (o ≡ p) × (us ≡ vs)
unfolding step_text
step_apart number m o p k l us vs g h e =
    let opened = λ (x : StepOutcome Fraction) (ts : List ℕ). in_order (codes "step ") (decimal number) (came_to_text m x) ts in
    came_to_apart m o p k l us vs g h
    (append_cancel_left (codes "step " ++ decimal number) (came_to_text m o ++ us) (came_to_text m p ++ vs) (sym (opened o us) ∙ e ∙ opened p vs))
  where
    in_order : (a n c ts : List ℕ) → (a ++ n ++ c) ++ ts ≡ (a ++ n) ++ (c ++ ts)
    in_order a n c ts = Prim.simp append_assoc

-- ---- steps
-- the text of steps does not go on with the line of a limit or of a room
steps_end : (number : ℕ) (m : Parts) (steps : List Step) (os : List (StepOutcome Fraction)) → EndsDuals (steps_text number m steps os)
unfolding step_text
steps_end number m [] os = (tt, tt)
steps_end number m (s ∷ steps) [] = (tt, tt)
steps_end number m (s ∷ steps) (o ∷ os) = (λ e. Prim.omega (arith, e), λ e. Prim.omega (arith, e))

steps_apart : (number : ℕ) (m : Parts) (steps : List Step) (os ps : List (StepOutcome Fraction))
    → OutcomesFit m steps os → OutcomesFit m steps ps → steps_text number m steps os ≡ steps_text number m steps ps → os ≡ ps
steps_apart number m [] [] [] k l e = refl
steps_apart number m [] [] (p ∷ ps) k none e = absurd none
steps_apart number m [] (o ∷ os) ps none l e = absurd none
steps_apart number m (s ∷ steps) [] ps none l e = absurd none
steps_apart number m (s ∷ steps) (o ∷ os) [] k none e = absurd none
steps_apart number m (s ∷ steps) (o ∷ os) (p ∷ ps) k l e =
    let next : Parts = stepped m s in
    let first = step_apart number m o p k.0 l.0 (steps_text (number + 1) next steps os) (steps_text (number + 1) next steps ps)
    (steps_end (number + 1) next steps os) (steps_end (number + 1) next steps ps) e in
    let rest : os ≡ ps = steps_apart (number + 1) next steps os ps k.1 l.1 first.1 in
    Prim.cc (first.0, rest)

pub replays_read_apart : ReplaysReadApart
replays_read_apart m [] [] [] k l e = refl
replays_read_apart m [] [] (p ∷ others) k none e = absurd none
replays_read_apart m [] (o ∷ outcomes) others none l e = absurd none
replays_read_apart m (s ∷ steps) outcomes others k l e = steps_apart 1 m (s ∷ steps) outcomes others k l e

-- ---- right outcomes fit
reply_fits : (bound : ℕ) (m : Parts) (before after : List Taking) (s : Step) (o : StepOutcome Fraction) → IsReply bound m before s o after → StepOutcomeFits m o
reply_fits bound m before after (step.Edit e) reply.Accepted is = tt
reply_fits bound m before after (step.Edit e) (reply.Refused f) is = tt
reply_fits bound m before after (step.Edit e) (reply.Clear o) none = absurd none
reply_fits bound m before after step.Clear reply.Accepted none = absurd none
reply_fits bound m before after step.Clear (reply.Refused f) none = absurd none
reply_fits bound m before after step.Clear (reply.Clear o) is = outcome_fits _ m o (right_by bound m _ o is.0.right)

pub replay_fits : (bound : ℕ) (m : Parts) (before after : List Taking) (steps : List Step) (os : List (StepOutcome Fraction)) → IsReplay bound m before steps os after → OutcomesFit m steps os
replay_fits bound m before after [] [] replay = tt
replay_fits bound m before after [] (o ∷ os) none = absurd none
replay_fits bound m before after (s ∷ steps) [] none = absurd none
replay_fits bound m before after (s ∷ steps) (o ∷ os) replay =
    (reply_fits bound m before replay.0 s o replay.1, replay_fits bound (stepped m s) replay.0 after steps os replay.2)

pub replays_apart : ReplaysApart
replays_apart bound m before after former latter steps outcomes others replay other e =
    replays_read_apart m steps outcomes others (replay_fits bound m before after steps outcomes replay) (replay_fits bound m former latter steps others other) e
