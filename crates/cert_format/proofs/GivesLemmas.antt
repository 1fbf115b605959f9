-- A part that was read, and one that was not.
use Rattle.std.proofs.Common.{◌≡◌, ◌∙◌, sym, ap}
use Rattle.std.specs.Prelude.{Option, Some, None, Result, Ok, Err, Bool, not, is_none, is_some, option_and_then, option_map, IfOk}
use Rattle.cert_format.specs.declared.certificate.CertFault.{CertFault}
use Rattle.cert_format.specs.declared.certificate.CertFault.TheVariants as fault
use Rattle.cert_format.specs.declared.certificate.Key.{Key}
use Rattle.cert_format.specs.Grammar.{Gives, need}

-- what a part that was read is
pub need-some : {A : Type 0} (k : Key) (o : Option A) (x : A) → need k o (λ y. Ok y) ≡ Ok x → o ≡ Some x
need-some k None x e = cc
need-some k (Some y) x e = let same : y ≡ x = cc in ap Some same

same_fault : (A B : Type 0) (k j : Key) → ◌≡◌ {A = Result A Key} (Err k) (Err j) → ◌≡◌ {A = Result B Key} (Err k) (Err j)
same_fault A B k j h = let same : k ≡ j = cc in ap (λ i. Err i) same

-- and where it was not, so is all that it stands in
pub fails-further : {A B X Y : Type 0} (k : Key) (o : Option A) (f : A → Result B Key) (seen : X → A) (further : Y → B) (e : CertFault) → Gives seen (Err e) (need k o (λ y. Ok y)) → Gives further (Err e) (need k o f)
fails-further k o f seen further fault.Memory h = tt
fails-further {A} {B} k None f seen further (fault.Key j) h = same_fault A B k j h
fails-further k (Some y) f seen further (fault.Key j) h = cc

-- and so is the part of the text in which it is one step
pub fails-within : {A B X Y : Type 0} (k : Key) (o : Option A) (f : A → Option B) (seen : X → A) (further : Y → B) (e : CertFault) → Gives seen (Err e) (need k o (λ y. Ok y)) → Gives further (Err e) (need k (option_and_then f o) (λ y. Ok y))
fails-within k o f seen further fault.Memory h = tt
fails-within {A} {B} k None f seen further (fault.Key j) h = same_fault A B k j h
fails-within k (Some y) f seen further (fault.Key j) h = cc

-- whether there is none is the same under a view
pub none-of : {A B : Type 0} (o : Option A) (f : A → B) (p : Option B) (b : Bool) → option_map f o ≡ p → is_some o ≡ b → is_none p ≡ not b
none-of None f p b e is = ap is_none (sym e) ∙ ap not is
none-of (Some x) f p b e is = ap is_none (sym e) ∙ ap not is

-- ---- what a reader gives of a text
module _ {A B : Type 0} (seen : A → B) (meant text : Result B Key) (same : text ≡ meant) where
  pub gives-read : (r : Result A CertFault) → Gives seen r meant → IfOk r (λ x. text ≡ Ok (seen x))
  gives-read (Ok x) h = same ∙ h
  gives-read (Err e) h = tt

  pub gives-fault : (r : Result A CertFault) → Gives seen r meant → (k : Key) → r ≡ Err (fault.Key k) → text ≡ Err k
  gives-fault (Ok x) h k e = cc
  gives-fault (Err fault.Memory) h k e = cc
  gives-fault (Err (fault.Key j)) h k e = let here : j ≡ k = cc in same ∙ h ∙ ap (λ i. Err i) here

pub key_is : {A : Type 0} (j k : Key) → ◌≡◌ {A = Result A CertFault} (Err (fault.Key j)) (Err (fault.Key k)) → j ≡ k
key_is j k e = cc
