-- How a run ends, from a store that was only read.
use Rattle.std.proofs.Common.{◌≡◌, ◌∙◌, ℕ, List, [], ◌∷◌, Option, Some, None, Result, Ok, Err, inl, inr, refl, subst}
use Rattle.std.specs.Prelude.{◌⊎◌, IsErr, take}
use Rattle.outside_store.specs.Causes.{Rose}
use Rattle.outside_store.specs.Files.{Files, SameFiles, Wrote}
use Rattle.outside_store.specs.Sinks.{Took}
use Rattle.outside_store.specs.declared.Store.{Ghosts}
use Rattle.outside_store.specs.declared.Failed.{Failed}
use Rattle.command_answers.specs.Tellings.{Telling}
use Rattle.command_answers.specs.declared.status.Status.{Status}
use Rattle.command_answers.specs.declared.status.Status.TheVariants as status
use Rattle.sced.specs.Runs.{Ends, KeepsWrites, WritesFor, told, unwritten}
use Rattle.sced.specs.Told.{named_bytes}
use Rattle.command_files.proofs.ReadingLemmas.{same_files, same_then}

-- a write that failed was of a file
surely : (failed : Type 0) (name bytes : List ℕ) (a b : Option Files) → failed → Wrote failed name bytes a b → Wrote (Unit {0}) name bytes a b
surely failed name bytes None None bad wrote = tt
surely failed name bytes None (Some h) bad wrote = elim wrote [ ]
surely failed name bytes (Some f) None bad wrote = elim wrote [ ]
surely failed name bytes (Some f) (Some h) bad wrote = record { done = λ not. absurd (not tt); cut = λ _. wrote.cut bad; others = wrote.others }

-- and so was one of files that are written one after another
pub keeps-surely : (failed : Type 0) (w : List (List ℕ × List ℕ)) (before now : Option Files) → failed → KeepsWrites failed w before now → KeepsWrites (Unit {0}) w before now
keeps-surely failed [] before now bad (fine, same) = absurd (fine bad)
keeps-surely failed ((name, bytes) ∷ rest) before now bad (inl (_, wrote)) = inl (tt, surely failed name bytes before now bad wrote)
keeps-surely failed ((name, bytes) ∷ rest) before now bad (inr (between, wrote, kept)) = inr (between, wrote, keeps-surely failed rest between now bad kept)

pub ends-cut : (failed : Type 0) (t : Telling) (w : List (List ℕ × List ℕ)) (before now : Option Files) (taken : Option (List ℕ)) → failed → KeepsWrites failed w before now
    → Ends t w before now taken taken status.WriteFailed
ends-cut failed t w before now taken bad kept = unwritten (keeps-surely failed w before now bad kept) refl refl

-- files of which no write failed are all written
pub keeps-all : (failed : Type 0) (w : List (List ℕ × List ℕ)) (before now : Option Files) → ¬ failed → KeepsWrites failed w before now → KeepsWrites ⊥ w before now
keeps-all failed [] before now fine (good, same) = (λ never. never, same)
keeps-all failed ((name, bytes) ∷ rest) before now fine (inl (bad, wrote)) = absurd (fine bad)
keeps-all failed ((name, bytes) ∷ rest) before now fine (inr (between, wrote, kept)) = inr (between, wrote, keeps-all failed rest between now fine kept)

pub ends-told : (failed : Type 0) (t : Telling) (w : List (List ℕ × List ℕ)) (before now : Option Files) (had has : Option (List ℕ)) (s : Status) → ¬ failed → KeepsWrites failed w before now
    → Took (s ≡ status.WriteFailed) t.text had has → (s ≡ t.status) ⊎ (s ≡ status.WriteFailed) → Ends t w before now had has s
ends-told failed t w before now had has s fine kept took right = told (keeps-all failed w before now fine kept) took right

-- what was written to files is written to those that are the same
cut-from : (failed : Type 0) (name bytes : List ℕ) (e f h : Files) → ((n : List ℕ) → f n ≡ e n) → (failed → (h name ≡ f name) ⊎ ((k : ℕ) × (h name ≡ Some (take k bytes))))
    → failed → (h name ≡ e name) ⊎ ((k : ℕ) × (h name ≡ Some (take k bytes)))
cut-from failed name bytes e f h same cut bad = elim (cut bad) [
  | inl as_before ↦ inl (as_before ∙ same name)
  | inr prefix ↦ inr prefix
]

wrote-from : (failed : Type 0) (name bytes : List ℕ) (a b c : Option Files) → SameFiles a b → Wrote failed name bytes b c → Wrote failed name bytes a c
wrote-from failed name bytes None None None same wrote = tt
wrote-from failed name bytes None None (Some h) same wrote = elim wrote [ ]
wrote-from failed name bytes None (Some g) c same wrote = elim same [ ]
wrote-from failed name bytes (Some e) None c same wrote = elim same [ ]
wrote-from failed name bytes (Some e) (Some f) None same wrote = elim wrote [ ]
wrote-from failed name bytes (Some e) (Some f) (Some h) same wrote = record {
  done = wrote.done;
  cut = cut-from failed name bytes e f h same wrote.cut;
  others = λ n apart. wrote.others n apart ∙ same n;
}

pub keeps-from : (failed : Type 0) (w : List (List ℕ × List ℕ)) (a b c : Option Files) → SameFiles a b → KeepsWrites failed w b c → KeepsWrites failed w a c
keeps-from failed [] a b c same (fine, kept) = (fine, same_then a b c same kept)
keeps-from failed ((name, bytes) ∷ rest) a b c same (inl (bad, wrote)) = inl (bad, wrote-from failed name bytes a b c same wrote)
keeps-from failed ((name, bytes) ∷ rest) a b c same (inr (between, wrote, kept)) = inr (between, wrote-from ⊥ name bytes a b between same wrote, kept)

pub ends-from : (t : Telling) (w : List (List ℕ × List ℕ)) (a b c : Option Files) (taken_before taken_now : Option (List ℕ)) (s : Status) → SameFiles a b → Ends t w b c taken_before taken_now s
    → Ends t w a c taken_before taken_now s
ends-from t w a b c before now s same (told kept took right) = told (keeps-from ⊥ w a b c same kept) took right
ends-from t w a b c before now s same (unwritten kept none failed) = unwritten (keeps-from (Unit {0}) w a b c same kept) none failed

-- ---- one write, of which it is known whether it failed
-- one that did not fail is whole
whole : (failed : Type 0) (name bytes : List ℕ) (a b : Option Files) → ¬ failed → Wrote failed name bytes a b → Wrote ⊥ name bytes a b
whole failed name bytes None None fine wrote = tt
whole failed name bytes None (Some h) fine wrote = elim wrote [ ]
whole failed name bytes (Some f) None fine wrote = elim wrote [ ]
whole failed name bytes (Some f) (Some h) fine wrote = record { done = λ _. wrote.done fine; cut = λ bad. absurd bad; others = wrote.others }

pub keeps-one : (r : Result (Unit {0}) Failed) (name bytes : List ℕ) (before now : Option Files) → Wrote (IsErr r) name bytes before now → KeepsWrites (IsErr r) ((name, bytes) ∷ []) before now
keeps-one (Ok _) name bytes before now wrote = inr (now, whole _ name bytes before now (λ bad. cc bad) wrote, (λ bad. cc bad, same_files now))
keeps-one (Err e) name bytes before now wrote = inl (refl, wrote)

-- ---- outputs one behind another
-- what is told to be well has not failed
pub not-failed : (r : Result (Unit {0}) Failed) (done : Unit {0}) → r ≡ Ok done → ¬ (IsErr r)
not-failed (Ok _) done is = λ bad. cc bad
not-failed (Err e) done is = λ bad. cc is

-- where an output is kept, those behind it are kept from there
pub keeps-then : (first failed : Type 0) (name bytes : Option (List ℕ)) (rest : List (List ℕ × List ℕ)) (a b c : Option Files) → ¬ first
    → KeepsWrites first (named_bytes name bytes []) a b → KeepsWrites failed rest b c → KeepsWrites failed (named_bytes name bytes rest) a c
keeps-then first failed (Some name) (Some bytes) rest a b c fine (inl (bad, wrote)) kept = absurd (fine bad)
keeps-then first failed (Some name) (Some bytes) rest a b c fine (inr (between, wrote, (good, same))) kept = inr (between, wrote, keeps-from failed rest between b c same kept)
keeps-then first failed (Some name) None rest a b c fine (good, same) kept = keeps-from failed rest a b c same kept
keeps-then first failed None bytes rest a b c fine (good, same) kept = keeps-from failed rest a b c same kept

-- a write that failed is one of a run that did
wrote-cut : (first failed : Type 0) (name bytes : List ℕ) (a b : Option Files) → first → failed → Wrote first name bytes a b → Wrote failed name bytes a b
wrote-cut first failed name bytes None None bad turned wrote = tt
wrote-cut first failed name bytes None (Some h) bad turned wrote = elim wrote [ ]
wrote-cut first failed name bytes (Some f) None bad turned wrote = elim wrote [ ]
wrote-cut first failed name bytes (Some f) (Some h) bad turned wrote = record { done = λ fine. absurd (fine turned); cut = λ _. wrote.cut bad; others = wrote.others }

-- where it is not, none behind it is written
pub keeps-cut : (first failed : Type 0) (name bytes : Option (List ℕ)) (rest : List (List ℕ × List ℕ)) (a b : Option Files) → first → failed
    → KeepsWrites first (named_bytes name bytes []) a b → KeepsWrites failed (named_bytes name bytes rest) a b
keeps-cut first failed (Some name) (Some bytes) rest a b bad turned (inl (was, wrote)) = inl (turned, wrote-cut first failed name bytes a b bad turned wrote)
keeps-cut first failed (Some name) (Some bytes) rest a b bad turned (inr (between, wrote, (good, same))) = absurd (good bad)
keeps-cut first failed (Some name) None rest a b bad turned (good, same) = absurd (good bad)
keeps-cut first failed None bytes rest a b bad turned (good, same) = absurd (good bad)

-- ---- failed writes that are counted
module _ {S : Type 0} (store : Ghosts S) (asked wider : List ℕ → Type 0) (within : (file : List ℕ) → asked file → wider file) (first failed : Type 0) where
  -- a step that did not fail counts none, so what is counted is of the next
  pub writes-then : (a b c : S) (others : List ℕ → Type 0) → ¬ first → WritesFor store a b others first → WritesFor store b c asked failed → WritesFor store a c wider failed
  writes-then a b c others fine before after = record {
    cause = λ bad. let (file, is, rose) = after.cause bad in (file, within file is, subst (λ n. Rose n (store.failed_writes c file)) (before.still fine file) rose);
    still = λ good n. after.still good n ∙ before.still fine n;
  }

  -- and one that failed ends the work
  pub writes-cut : (a b : S) → first → failed → WritesFor store a b asked first → WritesFor store a b wider failed
  writes-cut a b bad turned counts = record {
    cause = λ _. let (file, is, rose) = counts.cause bad in (file, within file is, rose);
    still = λ good. absurd (good turned);
  }
