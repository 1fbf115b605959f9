-- What a writer took, over several calls.
use Rattle.std.specs.Prelude.{◌≡◌, ℕ, ◌+◌, ◌-◌, List, ◌++◌, length, take, drop, Option}
use Rattle.std.proofs.Common.{sym, ap, subst, ◌∙◌, arith, append_assoc, length-drop}
use Rattle.std.proofs.lemmas.List.{take_all, take-append-drop}
use Rattle.std.proofs.KnownBytes.{Appends-trans, Appends-kept}
use Rattle.std.specs.Io.KnownBytes.{Appends, Keeps}
use lib.Seq.{take-append_seam, take-append-add}

-- the writer took the bytes before the rest, and then some of the rest
pub took_more : (a b c : Option (List ℕ)) (bytes done rest : List ℕ) (n : ℕ) → Appends a b done → Appends b c (take n rest) → bytes ≡ done ++ rest
    → (more : List ℕ) × Appends a c more × (bytes ≡ more ++ take (length rest - n) (drop n rest))
took_more a b c bytes done rest n p q e = (
  done ++ take n rest,
  Appends-trans a b c done (take n rest) p q,
  e ∙ ap (λ l. done ++ l) (sym (take-append-drop n rest)) ∙ sym (append_assoc done (take n rest) (drop n rest))
      ∙ ap (λ l. (done ++ take n rest) ++ l) (sym (take_all (length rest - n) (drop n rest) (Prim.omega (arith, length-drop n rest)))),
)

-- what it took is a prefix of the bytes
pub took_prefix : (a b c : Option (List ℕ)) (bytes done rest : List ℕ) (n : ℕ) → Appends a b done → Appends b c (take n rest) → bytes ≡ done ++ rest → (k : ℕ) × Appends a c (take k bytes)
took_prefix a b c bytes done rest n p q e =
    let first : done ++ take n rest ≡ take (length done + n) bytes = sym (ap (take (length done + n)) e ∙ take-append-add done rest n) in
    (length done + n, subst (Appends a c) first (Appends-trans a b c done (take n rest) p q))

-- the same where its last call failed
pub took_no_more : (a b c : Option (List ℕ)) (bytes done rest : List ℕ) → Appends a b done → Keeps b c → bytes ≡ done ++ rest → (k : ℕ) × Appends a c (take k bytes)
took_no_more a b c bytes done rest p q e =
    let first : done ≡ take (length done) bytes = sym (ap (take (length done)) e ∙ take-append_seam done rest) in
    (length done, subst (Appends a c) first (Appends-kept a b c done p q))
