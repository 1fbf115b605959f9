-- Names and targets as the reader tests them.
use Rattle.std.proofs.Common.{◌≡◌, ◌≢◌, ℕ, ◌==◌, Bool, true, false, List, [], ◌∷◌, ◌++◌, take, drop, refl, sym, ap, subst, ◌∙◌, codes}
use Rattle.std.specs.Prelude.{IsTrue}
use Rattle.std.specs.List.{AllByRecursion, list_all, slice_split, onto_first}
use Rattle.std.specs.Char.{is_ascii_alphabetic}
use Rattle.std.specs.Str.{bytes_eq}
use Rattle.std.proofs.lemmas.Bool.{ne_eqb, eqb-true, and_from, and_parts, false≢true, cond-false, cond-true}
use Rattle.std.proofs.lemmas.Slice.Eq.{bytes_eq-Decides}
use Rattle.std.proofs.lemmas.List.{append-nil}
use Rattle.case_text.specs.Names.{is_name_part, is_name_text, is_names_text, is_target}
use Rattle.case_grammar.specs.Statements.{IsName, Target, further_text, target_text, IsTarget}

all-parts : (bytes : List ℕ) → AllByRecursion (λ byte. IsTrue (is_name_part byte)) bytes → list_all is_name_part bytes ≡ true
all-parts [] h = refl
all-parts (b ∷ bytes) h = and_from (is_name_part b) _ h.0 (all-parts bytes h.1)

each-part : (bytes : List ℕ) → list_all is_name_part bytes ≡ true → AllByRecursion (λ byte. IsTrue (is_name_part byte)) bytes
each-part [] h = tt
each-part (b ∷ bytes) h = let p = and_parts (is_name_part b) (list_all is_name_part bytes) h in (p.0, each-part bytes p.1)

pub name-text : (name : List ℕ) → IsName name → is_name_text name ≡ true
unfolding is_name_text
name-text [] h = absurd h
name-text (first ∷ others) h = and_from (is_ascii_alphabetic first) _ h.0 (all-parts others h.1)

pub text-name : (name : List ℕ) → is_name_text name ≡ true → IsName name
unfolding is_name_text
text-name [] h = false≢true h
text-name (first ∷ others) h = let p = and_parts (is_ascii_alphabetic first) (list_all is_name_part others) h in (p.0, each-part others p.1)

-- ---- names with points between them
abbrev is_point : ℕ → Bool
is_point byte = byte == 46

abbrev HasNoPoint : List ℕ → Type 0
HasNoPoint bytes = AllByRecursion (λ byte. byte ≢ 46) bytes

parts-pointless : (bytes : List ℕ) → AllByRecursion (λ byte. IsTrue (is_name_part byte)) bytes → HasNoPoint bytes
parts-pointless [] h = tt
parts-pointless (b ∷ bytes) h = (λ e. false≢true (subst (λ x. is_name_part x ≡ true) e h.0), parts-pointless bytes h.1)

name-pointless : (name : List ℕ) → IsName name → HasNoPoint name
name-pointless [] h = tt
name-pointless (first ∷ others) h = (λ e. false≢true (subst (λ x. is_ascii_alphabetic x ≡ true) e h.0), parts-pointless others h.1)

split-one : (name : List ℕ) → HasNoPoint name → slice_split is_point name ≡ name ∷ []
split-one [] h = refl
split-one (b ∷ name) h = cond-false (is_point b) _ _ (ne_eqb b 46 h.0) ∙ ap (onto_first b) (split-one name h.1)

split-first : (name rest : List ℕ) → HasNoPoint name → slice_split is_point (name ++ 46 ∷ rest) ≡ name ∷ slice_split is_point rest
split-first [] rest h = refl
split-first (b ∷ name) rest h = cond-false (is_point b) _ _ (ne_eqb b 46 h.0) ∙ ap (onto_first b) (split-first name rest h.1)

split-names : (name : List ℕ) (names : List (List ℕ)) → IsName name → AllByRecursion IsName names → slice_split is_point (name ++ further_text names) ≡ name ∷ names
split-names name [] h k = ap (slice_split is_point) (append-nil name) ∙ split-one name (name-pointless name h)
split-names name (next ∷ names) h k =
    split-first name (next ++ further_text names) (name-pointless name h) ∙ ap (λ xs. name ∷ xs) (split-names next names k.0 k.1)

all-names : (names : List (List ℕ)) → AllByRecursion IsName names → list_all is_name_text names ≡ true
all-names [] h = refl
all-names (name ∷ names) h = and_from (is_name_text name) _ (name-text name h.0) (all-names names h.1)

pub target-text : (target : Target) → IsTarget target → is_target (target_text target) ≡ true
unfolding is_target is_names_text
target-text target h =
    ap (list_all is_name_text) (split-names target.name target.further h.0 h.1)
    ∙ and_from (is_name_text target.name) _ (name-text target.name h.0) (all-names target.further h.1)

-- ---- a text that is tested well is a target's
-- the names whose texts with points between them are these bytes
record AreNames (bytes : List ℕ) : Type 0 where
  name : List ℕ
  further : List (List ℕ)
  is : bytes ≡ name ++ further_text further
  split : slice_split is_point bytes ≡ name ∷ further

names-of : (bytes : List ℕ) → AreNames bytes
names-of [] = record { name = []; further = []; is = refl; split = refl }
names-of (b ∷ bytes) = by_test (is_point b) refl (names-of bytes) where
  by_test : (test : Bool) → is_point b ≡ test → AreNames bytes → AreNames (b ∷ bytes)
  by_test true t h = record {
    name = [];
    further = h.name ∷ h.further;
    is = ap (λ x. x ∷ bytes) (eqb-true b 46 t) ∙ ap (λ xs. 46 ∷ xs) h.is;
    split = cond-true (is_point b) _ _ t ∙ ap (λ xs. [] ∷ xs) h.split;
  }
  by_test false t h = record {
    name = b ∷ h.name;
    further = h.further;
    is = ap (λ xs. b ∷ xs) h.is;
    split = cond-false (is_point b) _ _ t ∙ ap (onto_first b) h.split;
  }

each-name : (names : List (List ℕ)) → list_all is_name_text names ≡ true → AllByRecursion IsName names
each-name [] h = tt
each-name (name ∷ names) h = let p = and_parts (is_name_text name) (list_all is_name_text names) h in (text-name name p.0, each-name names p.1)

pub record IsTargetOf (bytes : List ℕ) : Type 0 where
  pub target : Target
  pub names : IsTarget target
  pub is : bytes ≡ target_text target

four : (bytes front : List ℕ) → take 4 bytes ≡ front → bytes ≡ front ++ drop 4 bytes
four [] front e = ap (λ xs. xs ++ []) e
four (a ∷ []) front e = ap (λ xs. xs ++ []) e
four (a ∷ b ∷ []) front e = ap (λ xs. xs ++ []) e
four (a ∷ b ∷ c ∷ []) front e = ap (λ xs. xs ++ []) e
four (a ∷ b ∷ c ∷ d ∷ bytes) front e = ap (λ xs. xs ++ bytes) e

pub text-target : (bytes : List ℕ) → is_target bytes ≡ true → IsTargetOf bytes
unfolding is_target is_names_text
text-target bytes h =
    let p = and_parts (bytes_eq (take 4 bytes) (codes "mpc.")) (list_all is_name_text (slice_split is_point (drop 4 bytes))) h in
    let n = names-of (drop 4 bytes) in
    let each = and_parts (is_name_text n.name) (list_all is_name_text n.further) (ap (list_all is_name_text) (sym n.split) ∙ p.1) in
    record {
      target = record { name = n.name; further = n.further };
      names = (text-name n.name each.0, each-name n.further each.1);
      is = four bytes (codes "mpc.") ((bytes_eq-Decides (take 4 bytes) (codes "mpc.")).0 p.0) ∙ ap (λ xs. codes "mpc." ++ xs) n.is;
    }
