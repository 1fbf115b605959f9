-- The penalties of limits, and one record more.
use Rattle.std.proofs.Common.{◌≡◌, List, [], ◌∷◌, ◌++◌, arith, refl, Bool, true, false}
use mathlib.Core.Bool.{beq}
use Rattle.std.proofs.lemmas.Bool.{eq-eqb}
use Rattle.std.proofs.lemmas.List.Elements.{All-append, All-cons, All-nil}
use Rattle.factor_tables.proofs.KeyLemmas.{once-push}
use Rattle.factor_tables.specs.Penalties.{ArePenalties, IsSoftness, Limit, PenaltyEntry, has_penalty, same_limit}

its_own : (limit : Limit) → same_limit limit limit ≡ true
its_own (row, post) = let first = eq-eqb row row refl in let second = itself post in rw (first, second) refl
  where
    itself : (b : Bool) → beq b b ≡ true
    itself true = refl
    itself false = refl

pub penalties-none : ArePenalties []
penalties-none = record { kept = All-nil _; once = λ i j d lt within. absurd (omega (arith, within)) }

pub penalties-push : (old new : List PenaltyEntry) (entry : PenaltyEntry) → ArePenalties old → has_penalty old entry.0 ≡ false → IsSoftness entry.1 → new ≡ old ++ entry ∷ [] → ArePenalties new
penalties-push old new entry are fresh gives is = rw is (record {
  kept = All-append (λ (e : PenaltyEntry). IsSoftness e.1) old (entry ∷ []) are.kept (All-cons (λ (e : PenaltyEntry). IsSoftness e.1) entry [] gives (All-nil _));
  once = once-push same_limit its_own old entry are.once fresh;
})
