-- What a command comes to, with the files that are named for its outputs.
use Rattle.std.proofs.Common.{◌≡◌, ◌⊎◌, inl, inr, subst, sym, ℕ, List, Option, Some, None, Result, Ok, Err}
use Rattle.std.specs.Prelude.{IfOk, MatchResult}
use Rattle.outside_store.specs.Files.{Files}
use Rattle.command_answers.specs.Tellings.{certified, tabled, telling_of}
use Rattle.command_answers.specs.declared.status.Status.{Status}
use Rattle.command_answers.specs.declared.told.Outputs.{Outputs}
use Rattle.command_answers.specs.declared.told.Told.{Told}
use Rattle.command_words.specs.Words.{NamesToWrite}
use Rattle.sced.specs.declared.run.Work.{Work}
use Rattle.sced.specs.Told.{AnswersTo, IsOutputFile, named_outputs, names_for, written_by}

-- what is right for what a command comes to is right for the work
pub work-ok : (P : Told → Type 0) (Q : Work → Type 0) (r : Result Work Status) (m : Result Told Status) (names : Outputs (List ℕ))
    → MatchResult r (λ w. (m ≡ Ok w.told) × (names_for w ≡ names)) (λ s. m ≡ Err s) → IfOk m P → ((w : Work) → P w.told → names_for w ≡ names → Q w) → IfOk r Q
work-ok P Q (Ok w) m names (is, named) right next = next w (subst (λ n. IfOk n P) is right) named
work-ok P Q (Err s) m names is right next = tt

-- the outputs that there are go to the files that are named for them
pub named-by : (files : Option Files) (words : List (List ℕ)) (w : Work) (names : Outputs (List ℕ)) → names_for w ≡ names → AnswersTo files words (telling_of w.told) (named_outputs names (telling_of w.told).outputs)
    → AnswersTo files words (telling_of w.told) (written_by w)
named-by files words w names named right = subst (λ n. AnswersTo files words (telling_of w.told) (named_outputs n (telling_of w.told).outputs)) (sym named) right

-- ---- files that are named for outputs
-- those of the work are those that are named
pub named-ok : (words : List (List ℕ)) (r : Result Work Status) (m : Result Told Status) (names : Outputs (List ℕ))
    → MatchResult r (λ w. (m ≡ Ok w.told) × (names_for w ≡ names)) (λ s. m ≡ Err s) → ((file : List ℕ) → IsOutputFile names file → NamesToWrite words file)
    → IfOk r (λ w. (file : List ℕ) → IsOutputFile (names_for w) file → NamesToWrite words file)
named-ok words (Ok w) m names (is, named) within = λ file output. within file (subst (λ n. IsOutputFile n file) named output)
named-ok words (Err s) m names is within = tt

abbrev no_file : Option (List ℕ)
no_file = None

-- the one that is named for a certificate
pub certificate-named : (P : List ℕ → Type 0) (certificate : Option (List ℕ)) → ((file : List ℕ) → certificate ≡ Some file → P file) → (file : List ℕ) → IsOutputFile (certified certificate) file → P file
certificate-named P certificate named file (inl is) = let wrong : no_file ≡ Some file = is in cc wrong
certificate-named P certificate named file (inr (inl is)) = let wrong : no_file ≡ Some file = is in cc wrong
certificate-named P certificate named file (inr (inr is)) = named file is

-- there is none where no certificate is named
pub none-named : (P : List ℕ → Type 0) (file : List ℕ) → IsOutputFile (certified None) file → P file
none-named P = certificate-named P None (λ file is. let wrong : no_file ≡ Some file = is in cc wrong)

-- those that are named for tables of factors
pub tables-named : (ptdf : List ℕ) (lodf : Option (List ℕ)) (file : List ℕ) → IsOutputFile (tabled ptdf lodf) file → (file ≡ ptdf) ⊎ (lodf ≡ Some file)
tables-named ptdf lodf file (inl is) = let same : ptdf ≡ file = cc is in inl (sym same)
tables-named ptdf lodf file (inr (inl is)) = inr is
tables-named ptdf lodf file (inr (inr is)) = let wrong : no_file ≡ Some file = is in cc wrong
