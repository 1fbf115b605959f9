-- What the functions that read tokens give.
use Rattle.std.specs.Prelude.{◌≡◌, ◌≢◌, ◌∷◌, length, Result, Ok, Err, MatchResult}
use Rattle.case_tokens.specs.declared.Token.{Token}
use Rattle.case_tokens.specs.TokenLists.{Remaining, IsWithin}
use Rattle.case_text.specs.declared.CaseFault.{CaseFault}
use Rattle.case_text.specs.declared.CaseFault.TheVariants as fault

-- What a function returned, seen by view, is what reading gives, unless memory ran out.
abbrev pub Gives : {X Y : Type 0} → (X → Y) → Result X CaseFault → Result Y CaseFault → Type 0
Gives view result read = MatchResult result (λ x. read ≡ Ok (view x)) (λ e. e ≢ fault.Memory → read ≡ Err e)

-- the same text and the same end of the tokens
pub record SameEnd (old new : Remaining) : Type 0 where
  pub text : new.text ≡ old.text
  pub fault : new.left.fault ≡ old.left.fault

-- the token is the first that was left, and lies in the text
pub record IsNext (old new : Remaining) (token : Token) : Type 0 where
  pub left : old.left.tokens ≡ token ∷ new.left.tokens
  pub within : IsWithin (length old.text) token
