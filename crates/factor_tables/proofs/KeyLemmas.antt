-- Records by key, of which no key stands twice.
use Rattle.std.proofs.Common.{◌≡◌, ◌≢◌, ℕ, zero, suc, ◌+◌, ap, ◌∙◌, ◌<◌, ◌++◌, ◌∷◌, [], List, length, get_or, arith, refl, sym, Option, Some, Bool, true, false, length-append}
use Rattle.std.specs.Prelude.{AllPairs, if◌then◌else◌, is_some}
use Rattle.std.specs.Map.{lookup}
use Rattle.std.proofs.Math.Logic.{⊎_elim}
use Rattle.std.proofs.Math.Seq.{get_or-append_seam}
use Rattle.std.proofs.lemmas.Bool.{cases_lt}
use Rattle.std.proofs.lemmas.List.{get_or_append_left}

module _ {K X : Type 0} (same : K → K → Bool) (its_own : (k : K) → same k k ≡ true) where
  behind : (passes : Bool) (x : X) (rest : Option X) → is_some (if passes then Some x else rest) ≡ false → is_some rest ≡ false
  behind true x rest none = cc
  behind false x rest none = none

  -- a key that has no record is apart from those of the records
  new_key : (entries : List (K × X)) (key : K) (i : ℕ) (d : K × X) → is_some (lookup (same key) entries) ≡ false → i < length entries → (get_or entries i d).0 ≢ key
  new_key [] key i d new lt is = absurd (omega (arith, lt))
  new_key (e ∷ entries) key zero d new lt is =
      let found : same key e.0 ≡ true = rw is (its_own key) in
      let here : is_some (lookup (same key) (e ∷ entries)) ≡ true = rw found refl in
      cc (here, new)
  new_key (e ∷ entries) key (suc i) d new lt is = new_key entries key i d (behind (same key e.0) e.1 (lookup (same key) entries) new) (omega (arith, lt)) is

  -- one record more, whose key has none before
  pub once-push : (entries : List (K × X)) (entry : K × X) → AllPairs (λ a b. a.0 ≢ b.0) entries → is_some (lookup (same entry.0) entries) ≡ false → AllPairs (λ a b. a.0 ≢ b.0) (entries ++ entry ∷ [])
  once-push entries entry once new i j d lt within equal =
      let size : length (entries ++ entry ∷ []) ≡ length entries + 1 = length-append entries (entry ∷ []) in
      let early : i < length entries = omega (arith, lt, within, size) in
      let first = get_or_append_left entries (entry ∷ []) d i early in
      let key_of_first = ap (λ (e : K × X). e.0) first in
      ⊎_elim
      (λ old. once i j d lt old (sym key_of_first ∙ equal ∙ ap (λ (e : K × X). e.0) (get_or_append_left entries (entry ∷ []) d j old)))
      (λ past.
      let last : j ≡ length entries = omega (arith, past, within, size) in
      let second : get_or (entries ++ entry ∷ []) j d ≡ entry = rw last (get_or-append_seam entries entry [] d) in
      new_key entries entry.0 i d new early (sym key_of_first ∙ equal ∙ ap (λ (e : K × X). e.0) second))
      (cases_lt j (length entries))
