-- What a failed write leaves of the files.
use Rattle.std.proofs.Common.{◌≡◌, ◌∙◌, ℕ, Bool, true, false, List, [], ◌∷◌, take, Option, Some, None, inl, inr, refl, sym, ap, subst}
use Rattle.std.specs.Prelude.{◌⊎◌, if◌then◌else◌}
use Rattle.std.specs.Str.{bytes_eq}
use Rattle.std.proofs.lemmas.Slice.Eq.{bytes_eq-Decides}
use Rattle.outside_store.specs.Files.{Files, Written}
use Rattle.command_words.specs.Words.{NamesToWrite}
use Rattle.sced.specs.Headline.{IsLeft, IsCutAt, left_by_put, left_by_write, file_with, files_with}
use Rattle.sced.specs.Runs.{FailsAt, KeepsWrites, Outside, at_put, at_write}

-- ---- a file that is written has its bytes, and the others what they had
written-file : (name bytes : List ℕ) (f g : Files) → Written ⊥ name bytes f g → (n : List ℕ) → g n ≡ file_with f (name, bytes) n
written-file name bytes f g wrote n = by (bytes_eq n name) refl
  where
    by : (same : Bool) → bytes_eq n name ≡ same → g n ≡ (if same then Some bytes else f n)
    by true is = ap g ((bytes_eq-Decides n name).0 is) ∙ wrote.done (λ never. never)
    by false is = wrote.others n (λ same. let wrong : false ≡ true = sym is ∙ (bytes_eq-Decides n name).1 same in cc wrong)

-- files that are the same are so with others
same-with : (w : List (List ℕ × List ℕ)) (f g : Files) → ((n : List ℕ) → g n ≡ f n) → (n : List ℕ) → files_with g w n ≡ files_with f w n
same-with [] f g same n = same n
same-with (file ∷ rest) f g same n = same-with rest (file_with f file) (file_with g file) (λ k. ap (λ (o : Option (List ℕ)). if bytes_eq k file.0 then Some file.1 else o) (same k)) n

-- ---- files that are written one after another
all-written : (w : List (List ℕ × List ℕ)) (f h : Files) → KeepsWrites ⊥ w (Some f) (Some h) → (n : List ℕ) → h n ≡ files_with f w n
all-written [] f h (fine, same) n = same n
all-written ((name, bytes) ∷ rest) f h (inl (never, wrote)) n = absurd never
all-written ((name, bytes) ∷ rest) f h (inr (Some g, wrote, kept)) n = all-written rest g h kept n ∙ same-with rest (file_with f (name, bytes)) g (written-file name bytes f g wrote) n
all-written ((name, bytes) ∷ rest) f h (inr (None, wrote, kept)) n = elim wrote [ ]

cut-as : (a b : Option (List ℕ)) (has : Option (List ℕ)) (bytes : List ℕ) → a ≡ b → (has ≡ a) ⊎ ((k : ℕ) × (has ≡ Some (take k bytes))) → (has ≡ b) ⊎ ((k : ℕ) × (has ≡ Some (take k bytes)))
cut-as a b has bytes same (inl as_before) = inl (as_before ∙ same)
cut-as a b has bytes same (inr beginning) = inr beginning

stops-at : (w : List (List ℕ × List ℕ)) (f h : Files) → KeepsWrites (Unit {0}) w (Some f) (Some h) → IsCutAt w f h
stops-at [] f h (fine, same) = absurd (fine tt)
stops-at ((name, bytes) ∷ rest) f h (inl (bad, wrote)) = record { whole = []; name = name; bytes = bytes; untouched = rest; stands = refl; cut = wrote.cut tt; others = wrote.others }
stops-at ((name, bytes) ∷ rest) f h (inr (Some g, wrote, kept)) =
    let later = stops-at rest g h kept in
    let same : (n : List ℕ) → files_with g later.whole n ≡ files_with f ((name, bytes) ∷ later.whole) n = same-with later.whole (file_with f (name, bytes)) g (written-file name bytes f g wrote) in
    record {
      whole = (name, bytes) ∷ later.whole;
      name = later.name;
      bytes = later.bytes;
      untouched = later.untouched;
      stands = ap (λ r. (name, bytes) ∷ r) later.stands;
      cut = cut-as (files_with g later.whole later.name) (files_with f ((name, bytes) ∷ later.whole) later.name) (h later.name) later.bytes (same later.name) later.cut;
      others = λ n apart. later.others n apart ∙ same n;
    }
stops-at ((name, bytes) ∷ rest) f h (inr (None, wrote, kept)) = elim wrote [ ]

-- ---- what a run leaves
module _ (words : List (List ℕ)) (before after : Outside) (w : List (List ℕ × List ℕ)) (f h : Files) (was : before.files ≡ Some f) (is_now : after.files ≡ Some h) where
  as-told : (failed : Type 0) → KeepsWrites failed w before.files after.files → KeepsWrites failed w (Some f) (Some h)
  as-told failed kept = subst (λ y. KeepsWrites failed w (Some f) y) is_now (subst (λ x. KeepsWrites failed w x after.files) was kept)

  pub left-as : FailsAt (NamesToWrite words) w before after → IsLeft words w before after f h
  left-as (at_write file named rose none unput kept) = left_by_write file named rose none unput (stops-at w f h (as-told (Unit {0}) kept))
  left-as (at_put still rose kept) = left_by_put still rose (all-written w f h (as-told ⊥ kept))
