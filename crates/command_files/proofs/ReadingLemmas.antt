-- Files that stay as they were, and what was read of them.
use Rattle.std.proofs.Common.{◌≡◌, ℕ, Bor, List, Result, Ok, Err, Option, Some, None, refl, sym, subst, ◌∙◌}
use Rattle.std.specs.Prelude.{IfOk, MatchResult, is_some, option_map}
use Rattle.outside_store.specs.Files.{Files, SameFiles, Reads}
use Rattle.outside_store.specs.declared.Store.{Ghosts}
use Rattle.command_files.specs.Reading.{ReadsTable, Source, header_alone, in_file}
use Rattle.command_files.specs.OnlyReads.{OnlyReads}

-- ---- files that stay as they were
pub same_files : (files : Option Files) → SameFiles files files
same_files None = tt
same_files (Some f) = λ n. refl

pub same_then : (a b c : Option Files) → SameFiles a b → SameFiles b c → SameFiles a c
same_then None None None ab bc = tt
same_then None None (Some h) ab bc = elim bc [ ]
same_then None (Some g) None ab bc = elim ab [ ]
same_then None (Some g) (Some h) ab bc = elim ab [ ]
same_then (Some f) None None ab bc = elim ab [ ]
same_then (Some f) None (Some h) ab bc = elim ab [ ]
same_then (Some f) (Some g) None ab bc = elim bc [ ]
same_then (Some f) (Some g) (Some h) ab bc = λ n. bc n ∙ ab n

-- what was read later is what was there before
pub reads-same : (old now : Option Files) (name bytes : List ℕ) → SameFiles old now → Reads now name 33554432 bytes → Reads old name 33554432 bytes
reads-same None now name bytes same read = tt
reads-same (Some f) None name bytes same read = absurd same
reads-same (Some f) (Some h) name bytes same (whole, at, cut) = (whole, sym (same name) ∙ at, cut)

pub table-same : (old now : Option Files) (source : Source) (bytes : List ℕ) → SameFiles old now → ReadsTable now source bytes → ReadsTable old source bytes
table-same old now (in_file name) bytes same read = reads-same old now name bytes same read
table-same old now (header_alone header) bytes same read = read

-- what only reads some files only reads those of a wider choice
pub reads-of : {S : Type 0} (store : Ghosts S) (old new : S) (asked wider : List ℕ → Type 0) (failed : Type 0) → ((file : List ℕ) → asked file → wider file)
    → OnlyReads store old new asked failed → OnlyReads store old new wider failed
reads-of store old new asked wider failed within h = record {
  same = h.same;
  failed_read = λ f. let (file, is, rose) = h.failed_read f in (file, within file is, rose);
  reads = h.reads;
  writes = h.writes;
}

-- ---- outcomes
-- what is right for what is made is right for it once it is told
pub if_ok-map : {A E : Type 0} (P Q : A → Type 0) (r : Result A E) → ((x : A) → P x → Q x) → IfOk r P → IfOk r Q
if_ok-map P Q (Ok x) f right = f x right
if_ok-map P Q (Err e) f right = tt

pub told-ok : {A E F : Type 0} (P : A → Type 0) (Q : F → Type 0) (r : Result A F) (m : Result A E) → MatchResult r (λ x. m ≡ Ok x) Q → IfOk m P → IfOk r P
told-ok P Q (Ok x) m is right = subst (λ n. IfOk n P) is right
told-ok P Q (Err f) m is right = tt

-- the text of a name is there where the name is
pub name-there : (o : Option (Bor (List ℕ))) → is_some (option_map (λ name. name.now) o) ≡ is_some o
name-there None = refl
name-there (Some name) = refl
