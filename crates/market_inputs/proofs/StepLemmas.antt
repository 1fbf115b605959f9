-- One step of the work behind the other.
use Rattle.std.proofs.Common.{◌≡◌, ap, refl, sym, subst, Result, Ok, Err}
use Rattle.std.specs.Result.{IsErrAnd}
use Rattle.net_case.specs.Networks.{LiveNetwork}
use Rattle.net_paths.specs.Connection.{IsPathStop}
use Rattle.net_paths.specs.declared.connection.PathStop.{PathStop}
use Rattle.net_paths.specs.declared.connection.PathStop.TheVariants as path
use Rattle.refusal_text.specs.declared.refusals.Refusal.{Refusal}
use Rattle.market_inputs.specs.Cases.{IsJoined, split}
use Rattle.market_inputs.specs.declared.stops.InputStop.{InputStop}
use Rattle.market_inputs.specs.declared.stops.InputStop.TheVariants as stop
use Rattle.market_inputs.specs.Steps.{Is, Onward, Then}
use Rattle.market_inputs.specs.Stops.{IsToldAs, split_stop}

module _ {A B : Type 0} (P : Result A Refusal → Type 0) (Q : A → Result B Refusal → Type 0) where
  -- what was made is handed on
  pub made-then : (x : A) (told : Result B Refusal) → P (Ok x) → Q x told → Then P Q told
  made-then x told first next = record { made = Ok x; is = first; rest = next }

  pub goes-on : (x : A) (out : Result B InputStop) → P (Ok x) → IsToldAs (Q x) out → IsToldAs (Then P Q) out
  goes-on x (Ok y) first next = made-then x (Ok y) first next
  goes-on x (Err (stop.Refused why)) first next = made-then x (Err why) first next
  goes-on x (Err stop.Memory) first next = tt

  -- what stops the work is told
  pub stops : (r : Result A InputStop) (out : Result B InputStop) (e : InputStop) → IsToldAs P r → r ≡ Err e → out ≡ Err e → IsToldAs (Then P Q) out
  stops r out e told is gives = subst (IsToldAs (Then P Q)) (sym gives) (go e (subst (IsToldAs P) is told))
    where
      go : (e : InputStop) → IsToldAs P (Err e) → IsToldAs (Then P Q) (Err e)
      go (stop.Refused why) told = record { made = Err why; is = told; rest = refl }
      go stop.Memory told = tt

-- ---- steps that are told of as one
module _ {A B : Type 0} (P : Result A Refusal → Type 0) (Q R : A → Result B Refusal → Type 0) (told : Result B Refusal) where
  -- a step with another one behind
  pub then-map : ((x : A) → Q x told → R x told) → Then P Q told → Then P R told
  then-map each h = by h.made h.is h.rest
    where
      by : (made : Result A Refusal) → P made → Onward made Q told → Then P R told
      by (Ok x) is rest = record { made = Ok x; is = is; rest = each x rest }
      by (Err why) is rest = record { made = Err why; is = is; rest = rest }

-- what is behind two steps is behind the second of them
pub then-then : {A B C : Type 0} (P : Result A Refusal → Type 0) (Q : A → Result B Refusal → Type 0) (R : B → Result C Refusal → Type 0) (told : Result C Refusal)
    → Then (Then P Q) R told → Then P (λ x. Then (Q x) R) told
then-then {A} {B} {C} P Q R told h = by h.is.made h.is.is h.is.rest
  where
    by : (first : Result A Refusal) → P first → Onward first Q h.made → Then P (λ x. Then (Q x) R) told
    by (Ok x) is rest = record { made = Ok x; is = is; rest = record { made = h.made; is = rest; rest = h.rest } }
    by (Err why) is rest = record { made = Err why; is = is; rest = subst (λ made. Onward made R told) rest h.rest }

-- a step that gives what is there
then-is : {A B : Type 0} (x : A) (R : A → Result B Refusal → Type 0) (told : Result B Refusal) → Then (Is (Ok x)) R told → R x told
then-is x R told h = subst (λ made. Onward made R told) (sym h.is) h.rest

-- a step whose outcome is put into another form
pub then-made : {A B C : Type 0} (P : Result A Refusal → Type 0) (f : A → B) (R : B → Result C Refusal → Type 0) (told : Result C Refusal)
    → Then (Then P (λ x. Is (Ok (f x)))) R told → Then P (λ x. R (f x)) told
then-made P f R told h = then-map P (λ x. Then (Is (Ok (f x))) R) (λ x. R (f x)) told (λ x. then-is (f x) R told) (then-then P (λ x. Is (Ok (f x))) R told h)

-- what holds of whatever is told
pub told-as : {A : Type 0} (P Q : Result A Refusal → Type 0) → ((told : Result A Refusal) → P told → Q told) → (out : Result A InputStop) → IsToldAs P out → IsToldAs Q out
told-as P Q each (Ok x) h = each (Ok x) h
told-as P Q each (Err (stop.Refused why)) h = each (Err why) h
told-as P Q each (Err stop.Memory) h = tt

-- ---- a network that is split
pub split-told : (network : LiveNetwork) (stop : PathStop) → IsPathStop network stop → IsToldAs (IsJoined network) (Err (split_stop stop))
split-told network (path.Split bus) apart = split bus apart
split-told network path.Memory apart = tt

-- ---- what an error is told as
pub err-of : {A E : Type 0} (r : Result A E) (e : E) → IsErrAnd r (λ (told : E). told ≡ e) → r ≡ Err e
err-of (Ok x) e h = absurd h
err-of (Err told) e h = ap Err h
