-- The lines of steps, one step more, and by any market of the frame that needs as much reserve.
use Rattle.std.specs.Prelude.{◌≡◌, ℕ, ℤ, ◌+◌, ◌<◌, ◌≤◌, List, [], ◌∷◌, ◌++◌, length, map, slice_get, take, Some, codes, decimal, refl}
use Rattle.std.proofs.Common.{arith, ap, ap₂, sym, ◌∙◌, append_assoc, get_or}
use Rattle.std.proofs.lemmas.List.{append-nil, length-map, length-take-le, map_more, take_all, take_more}
use Rattle.std.proofs.lemmas.Option.{get_or_from_slice_get}
use Rattle.fraction_theory.specs.Fraction.{Fraction}
use Rattle.market_model.specs.declared.participants.Parts.{Parts}
use Rattle.market_model.specs.Changes.{with_need}
use Rattle.market_model.specs.Frame.{SameFrame}
use Rattle.edit_table.specs.declared.Step.{Step}
use Rattle.edit_replay.specs.declared.step_outcome.StepOutcome.{StepOutcome}
use Rattle.edit_replay.specs.declared.step_outcome.StepOutcome.TheVariants as reply
use Rattle.edit_replay.specs.Replays.{edited_by, stepped}
use Rattle.edit_replay.proofs.FrameLemmas.{stepped_frame, steps_frame}
use Rattle.replay_text.specs.ReplayTexts.{came_to_text, replayed, step_text, steps_text}
use Rattle.replay_text.proofs.FrameReports.{law_of_reports}
use Rattle.replay_text.proofs.NeedLemmas.{step_needs}

-- ---- any market of the frame that needs as much
module _ (m n : Parts) (same : SameFrame m n) (needs : m.reserve.need ≡ n.reserve.need) where
  came_to_framed : (o : StepOutcome Fraction) → came_to_text m o ≡ came_to_text n o
  came_to_framed reply.Accepted = refl
  came_to_framed (reply.Refused f) = refl
  came_to_framed (reply.Clear o) =
      ap (λ (t : List ℕ). codes " clear\n" ++ t) (law_of_reports m n m.reserve.need o same)
      ∙ ap (λ (need : ℤ). came_to_text (with_need n need) (reply.Clear o)) needs

  step_framed : (k : ℕ) (o : StepOutcome Fraction) → step_text k m o ≡ step_text k n o
  unfolding step_text
  step_framed k o = ap (λ (t : List ℕ). codes "step " ++ decimal k ++ t) (came_to_framed o)

steps_framed : (m n : Parts) (k : ℕ) (steps : List Step) (os : List (StepOutcome Fraction)) → SameFrame m n → m.reserve.need ≡ n.reserve.need → steps_text k m steps os ≡ steps_text k n steps os
steps_framed m n k [] os same needs = refl
steps_framed m n k (s ∷ steps) [] same needs = refl
steps_framed m n k (s ∷ steps) (o ∷ os) same needs =
    let next : SameFrame (stepped m s) (stepped n s) = sym (stepped_frame m s) ∙ same ∙ stepped_frame n s in
    ap₂ (λ (t u : List ℕ). t ++ u) (step_framed m n same needs k o) (steps_framed (stepped m s) (stepped n s) (k + 1) steps os next (step_needs m n s same needs))

-- ---- one step more
steps_last : (k : ℕ) (m : Parts) (steps : List Step) (os : List (StepOutcome Fraction)) (s : Step) (o : StepOutcome Fraction) → length os ≡ length steps
    → steps_text k m (steps ++ s ∷ []) (os ++ o ∷ []) ≡ steps_text k m steps os ++ step_text (k + length os) (edited_by m steps) o
steps_last k m [] [] s o count = append-nil (step_text k m o) ∙ ap (λ (n : ℕ). step_text n m o) (let e : k ≡ k + 0 = Prim.omega arith in e)
steps_last k m [] (x ∷ os) s o count = absurd (Prim.omega (arith, count))
steps_last k m (x ∷ steps) [] s o count = absurd (Prim.omega (arith, count))
steps_last k m (x ∷ steps) (y ∷ os) s o count =
    let e : (k + 1) + length os ≡ k + length (y ∷ os) = Prim.omega arith in
    let next : Parts = stepped m x in
    ap (λ (t : List ℕ). step_text k m y ++ t) (steps_last (k + 1) next steps os s o (Prim.omega (arith, count)) ∙ ap (λ (n : ℕ). steps_text (k + 1) next steps os ++ step_text n (edited_by next steps) o) e)
    ∙ sym (append_assoc (step_text k m y) (steps_text (k + 1) next steps os) (step_text (k + length (y ∷ os)) (edited_by next steps) o))

edited_last : (m : Parts) (steps : List Step) (s : Step) → edited_by m (steps ++ s ∷ []) ≡ stepped (edited_by m steps) s
edited_last m [] s = refl
edited_last m (x ∷ steps) s = edited_last (stepped m x) steps s

-- the first of some steps of a market with this need, each with what it came to
module _ {X : Type 0} (told : X → StepOutcome Fraction) (market : Parts) (need : ℤ) (steps : List Step) (xs : List X) where
  abbrev m : Parts
  m = with_need market need

  abbrev pub lines_until : ℕ → List ℕ
  lines_until k = steps_text 1 m (take k steps) (map told (take k xs))

  abbrev pub need_until : ℕ → ℤ
  need_until k = (edited_by m (take k steps)).reserve.need

  pub lines_none : (start : List ℕ) → start ≡ start ++ lines_until 0
  lines_none start = sym (append-nil start)

  module _ (k : ℕ) (within : k < length xs) (count : length xs ≡ length steps) (now : ℤ) (known : now ≡ need_until k) where
    abbrev here : Parts
    here = edited_by m (take k steps)

    -- by now the market is one of the frame
    pub reached : SameFrame market here
    reached = steps_frame m (take k steps)

    -- what is told by the market that was given and the need by now is told by this one
    told_here : (number : ℕ) (o : StepOutcome Fraction) → step_text number (with_need market now) o ≡ step_text number here o
    told_here number o = step_framed (with_need market now) here reached known number o

    done : (s : Step) → slice_get steps k ≡ Some s → take (k + 1) steps ≡ take k steps ++ s ∷ []
    done s at = take_more steps k s (Prim.omega (arith, within, count)) ∙ ap (λ (y : Step). take k steps ++ y ∷ []) (get_or_from_slice_get steps k s s at)

    pub lines_more : (start before after : List ℕ) (x : X) → x ≡ get_or xs k x → (s : Step) → slice_get steps k ≡ Some s → before ≡ start ++ lines_until k
        → after ≡ before ++ step_text (k + 1) (with_need market now) (told x) → after ≡ start ++ lines_until (k + 1)
    lines_more start before after x is s at e more =
        let front : List (StepOutcome Fraction) = map told (take k xs) in
        let size : length front ≡ k = length-map (take k xs) told ∙ length-take-le k xs (Prim.omega (arith, within)) in
        let as_many : length front ≡ length (take k steps) = size ∙ sym (length-take-le k steps (Prim.omega (arith, within, count))) in
        let number : k + 1 ≡ 1 + length front = Prim.omega (arith, size) in
        let outcomes : map told (take (k + 1) xs) ≡ front ++ told x ∷ [] = map_more told xs k x within ∙ ap (λ (y : X). front ++ told y ∷ []) (sym is) in
        more ∙ ap₂ (λ (t u : List ℕ). t ++ u) e (told_here (k + 1) (told x)) ∙ ap (λ (n : ℕ). (start ++ lines_until k) ++ step_text n here (told x)) number
        ∙ append_assoc start (lines_until k) (step_text (1 + length front) here (told x))
        ∙ ap (λ (t : List ℕ). start ++ t) (sym (steps_last 1 m (take k steps) front s (told x) as_many) ∙ sym (ap₂ (steps_text 1 m) (done s at) outcomes))

    pub need_more : (s : Step) → slice_get steps k ≡ Some s → (after : ℤ) → after ≡ (stepped (with_need here now) s).reserve.need → after ≡ need_until (k + 1)
    need_more s at after next =
        next ∙ ap (λ (n : ℤ). (stepped (with_need here n) s).reserve.need) known ∙ sym (ap (λ (p : Parts). p.reserve.need) (ap (edited_by m) (done s at) ∙ edited_last m (take k steps) s))

  pub lines_all : (start text : List ℕ) (k : ℕ) → length xs ≡ length steps → length xs ≤ k → text ≡ start ++ lines_until k → text ≡ start ++ steps_text 1 m steps (map told xs)
  lines_all start text k count h e =
      e ∙ ap₂ (λ (ss : List Step) (ys : List X). start ++ steps_text 1 m ss (map told ys)) (take_all k steps (Prim.omega (arith, h, count))) (take_all k xs h)

-- ---- the whole text
pub replayed_none : (n : Parts) (steps : List Step) (os : List (StepOutcome Fraction)) → length steps ≡ 0 → codes "no steps\n" ≡ replayed n steps os
replayed_none n [] os none = refl
replayed_none n (s ∷ steps) os none = absurd (Prim.omega (arith, none))

pub replayed_some : (m n : Parts) (need : ℤ) (steps : List Step) (os : List (StepOutcome Fraction)) → (length steps ≡ 0 → ⊥) → SameFrame m n → steps_text 1 (with_need m need) steps os ≡ replayed (with_need n need) steps os
replayed_some m n need [] os some same = absurd (some refl)
replayed_some m n need (s ∷ steps) os some same = steps_framed (with_need m need) (with_need n need) 1 (s ∷ steps) os same refl
