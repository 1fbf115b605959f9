-- What a run promises that has something to tell: it was read from a store, which then was written to, and the text was put.
use Rattle.std.specs.Prelude.{◌≡◌, ◌⊎◌, ℕ, List}
use Rattle.std.proofs.Common.{inl, inr, sym, subst, ◌∙◌}
use Rattle.outside_store.specs.Causes.{Rose, Still}
use Rattle.outside_store.specs.Files.{SameFiles}
use Rattle.command_words.specs.Words.{NamesToWrite}
use Rattle.command_answers.specs.Tellings.{Telling}
use Rattle.command_answers.specs.declared.status.Status.{Status}
use Rattle.command_answers.specs.declared.status.Status.TheVariants as status
use Rattle.sced.specs.Promise.{Runs}
use Rattle.sced.specs.Runs.{Ends, FailsAt, HasText, Outside, TellsUsage, at_put, at_write}
use Rattle.sced.specs.Told.{AnswersTo}
use Rattle.sced.proofs.EndLemmas.{ends-from, keeps-from}

-- ---- which failure is counted
-- of files that were only read before
module _ (asked wider : List ℕ → Type 0) (within : (file : List ℕ) → asked file → wider file) (w : List (List ℕ × List ℕ)) (before between after : Outside) (same : SameFiles before.files between.files)
    (writes : Still before.failed_writes between.failed_writes) (taken : between.taken ≡ before.taken) (puts : between.failed_puts ≡ before.failed_puts) where
  fails-from : FailsAt asked w between after → FailsAt wider w before after
  fails-from (at_write file is rose none unput kept) =
      at_write file (within file is) (subst (λ k. Rose k (after.failed_writes file)) (writes file) rose) (none ∙ taken) (unput ∙ puts) (keeps-from (Unit {0}) w before.files between.files after.files same kept)
  fails-from (at_put still rose kept) = at_put (λ n. still n ∙ writes n) (subst (λ k. Rose k after.failed_puts) puts rose) (keeps-from ⊥ w before.files between.files after.files same kept)

-- a write of a file that was asked for is counted, or a put
failed-cause : (asked : List ℕ → Type 0) (w : List (List ℕ × List ℕ)) (before after : Outside) → FailsAt asked w before after
    → ((file : List ℕ) × asked file × Rose (before.failed_writes file) (after.failed_writes file)) ⊎ Rose before.failed_puts after.failed_puts
failed-cause asked w before after (at_write file is rose none unput kept) = inl (file, is, rose)
failed-cause asked w before after (at_put still rose kept) = inr rose

-- ---- the promise
module _ (words : List (List ℕ)) (before between after : Outside) (t : Telling) (w : List (List ℕ × List ℕ)) (s : Status) (asked : List ℕ → Type 0) (within : (file : List ℕ) → asked file → NamesToWrite words file) where
  -- the status goes with the text, or is that of a failed write or put
  abbrev IsEnd : Type 0
  IsEnd = (s ≡ t.status) ⊎ (s ≡ status.WriteFailed)

  usage-told : TellsUsage words t.status → IsEnd → TellsUsage words s
  usage-told usage (inl same) = subst (TellsUsage words) (sym same) usage
  usage-told usage (inr failed) = record { usage = λ is. (let wrong : status.WriteFailed ≡ status.Usage = sym failed ∙ is in cc wrong); nothing_asked = λ nothing. inr (inl failed) }

  no-read-failed : HasText t.status → IsEnd → ¬ (s ≡ status.ReadFailed)
  no-read-failed told (inl same) is = subst HasText (sym same ∙ is) told
  no-read-failed told (inr failed) is = let wrong : status.WriteFailed ≡ status.ReadFailed = sym failed ∙ is in cc wrong

  no-memory : HasText t.status → IsEnd → ¬ (s ≡ status.Memory)
  no-memory told (inl same) is = subst HasText (sym same ∙ is) told
  no-memory told (inr failed) is = let wrong : status.WriteFailed ≡ status.Memory = sym failed ∙ is in cc wrong

  -- what was only read has its files and its counts
  pub runs-told : TellsUsage words t.status → HasText t.status → AnswersTo before.files words t w
      → SameFiles before.files between.files → Still before.failed_reads between.failed_reads → Still before.failed_writes between.failed_writes
      → IsEnd → Ends t w between.files after.files before.taken after.taken s
      → (¬ (Still between.failed_writes after.failed_writes) → after.taken ≡ before.taken) → Still between.failed_reads after.failed_reads
      → between.taken ≡ before.taken → between.failed_puts ≡ before.failed_puts → (s ≡ status.WriteFailed → FailsAt asked w between after)
      → (¬ (s ≡ status.WriteFailed) → Still between.failed_writes after.failed_writes × (after.failed_puts ≡ before.failed_puts))
      → Runs words before after s
  runs-told usage told right same reads writes end ends cut more_reads taken puts failed still = record {
    usage = usage-told usage end;
    reads = record { failed = λ is. absurd (no-read-failed told end is); still = λ _ n. more_reads n ∙ reads n };
    writes = record {
      failed = λ is. failed-cause (NamesToWrite words) w before after (fails is);
      still = λ no. (let here = still no in (λ n. here.0 n ∙ writes n, here.1));
    };
    cut = λ no. cut (λ here. no (λ n. here n ∙ writes n));
    silent = λ silent. elim silent [
      | inl is ↦ absurd (no-read-failed told end is)
      | inr is ↦ absurd (no-memory told end is)
    ];
    told = λ _. record { telling = t; written = w; right = right; ends = ends-from t w before.files between.files after.files before.taken after.taken s same ends; failed = fails };
  }
    where
      fails : s ≡ status.WriteFailed → FailsAt (NamesToWrite words) w before after
      fails is = fails-from asked (NamesToWrite words) within w before between after same writes taken puts (failed is)
