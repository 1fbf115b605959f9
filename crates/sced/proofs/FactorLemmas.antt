-- The law of runs that make tables of factors.
use Rattle.std.specs.Prelude.{◌≡◌, ◌≢◌, ℕ, Bool, true, false, List, [], codes, Option, Some, None, Ok, is_some, option_map}
use Rattle.std.proofs.Common.{inl, inr, refl, sym, subst, ap, ◌∙◌}
use Rattle.fraction_theory.specs.Fraction.{Fraction}
use Rattle.outside_store.specs.Files.{Files, SameFiles}
use Rattle.factor_maker.specs.declared.stops.MakeStop.{MakeStop}
use Rattle.factor_maker.specs.declared.stops.MakeStop.TheVariants as make_stop
use Rattle.factor_tables.specs.declared.by_pair.Column.TheVariants as column
use Rattle.factor_tables.specs.Factors.{FactorRecords}
use Rattle.factor_text.specs.Texts.{factor_table_text}
use Rattle.factor_laws.specs.Laws.{LossTablesAreReadBack, ShiftTablesAreReadBack}
use Rattle.factor_tables.specs.Tables.{loss_of}
use Rattle.dc_network.specs.DcNetworks.{ArePositive}
use Rattle.dc_network.specs.Laws.{IsSound}
use Rattle.market_data.specs.declared.scales.FactorPlaces.{FactorPlaces}
use Rattle.market_inputs.specs.Making.{AreFitToMake}
use Rattle.market_inputs.specs.declared.making.FactorInputs.{FactorInputs}
use Rattle.refusal_text.specs.declared.refusals.FactorFault.TheVariants as factor_fault
use Rattle.refusal_text.specs.declared.refusals.Refusal.TheVariants as refusal
use Rattle.report_text.specs.Reports.{range_text}
use Rattle.command_words.specs.Words.{AsksFactors, FactorNames}
use Rattle.command_words.proofs.WordsLemmas.{factors-once}
use Rattle.command_answers.specs.Factors.{IsFactorsStop, IsLossIfWanted, IsLossTable, TellsStop, made, stopped, tables_telling}
use Rattle.command_answers.specs.Tellings.{Telling, certified, refusal_of, tabled, uncertified}
use Rattle.command_answers.specs.declared.factors.MadeTables.{MadeTables}
use Rattle.command_answers.specs.declared.status.Status.{Status}
use Rattle.command_answers.specs.declared.status.Status.TheVariants as status
use Rattle.command_files.specs.Standing.{TellsFactorsOf}
use Rattle.sced.specs.Headline.{IsFactored, LawOfFactors, Prints, made_tables, passed_tables, refused_tables}
use Rattle.sced.specs.Runs.{KeepsWrites}
use Rattle.sced.specs.Told.{AnswersTo, checked, cleared, entitled, factored, migrated, named_bytes, named_outputs, pooled, refused, replayed, verified}
use Rattle.sced.specs.Told as told
use Rattle.sced.proofs.AskedLemmas.{factors-told, no-other, not-refused}
use Rattle.sced.proofs.HeadlineLemmas.{bytes-named, kept-at, kept-one, no-outputs}
use Rattle.sced.proofs.RunLemmas.{printed}
use Rattle.number_bits.specs.Bits.{most_of}
use Rattle.number_bits.specs.declared.NumberBits.TheVariants.{Bits127}

-- what is written are the tables that there are, to the files that are named for them
factors-written : (files : Files) (words : List (List ℕ)) (t : Telling) (w : List (List ℕ × List ℕ)) (names : FactorNames) → AsksFactors words names → AnswersTo (Some files) words t w
    → w ≡ named_outputs (tabled names.ptdf_out names.lodf_out) t.outputs
factors-written files words t _ names asks (factored names' asked tells) = ap (λ (n : FactorNames). named_outputs (tabled n.ptdf_out n.lodf_out) t.outputs) (factors-once words names' names asked asks)
factors-written files words t _ names asks (refused nothing usage) = absurd (not-refused words _ asks.rows nothing asks.enters)
factors-written files words t _ names asks (pooled case offers asked tells) = absurd (no-other words (codes "pool") (codes "factors") asked.rows asks.rows refl asked.enters asks.enters)
factors-written files words t _ names asks (cleared names' file asked tells) = absurd (no-other words (codes "clear") (codes "factors") asked.rows asks.rows refl asked.enters asks.enters)
factors-written files words t _ names asks (replayed names' edits file asked tells) = absurd (no-other words (codes "replay") (codes "factors") asked.rows asks.rows refl asked.enters asks.enters)
factors-written files words t _ names asks (verified names' edits certificate asked tells) = absurd (no-other words (codes "verify") (codes "factors") asked.rows asks.rows refl asked.enters asks.enters)
factors-written files words t _ names asks (entitled names' held asked tells) = absurd (no-other words (codes "rights") (codes "factors") asked.rows asks.rows refl asked.enters asks.enters)
factors-written files words t _ names asks (migrated old out bits asked tells) = absurd (no-other words (codes "migrate") (codes "factors") asked.rows asks.rows refl asked.enters asks.enters)
factors-written files words t _ names asks (checked names' asked tells) = absurd (no-other words (codes "check") (codes "factors") asked.rows asks.rows refl asked.enters asks.enters)
factors-written files words t _ names asks (told.made buses seed asked makes) = absurd (no-other words (codes "make") (codes "factors") asked.rows asks.rows refl asked.enters asks.enters)

-- ---- two files, one behind the other
module _ (files later : Files) (first : List ℕ) (second : Option (List ℕ)) (one : List ℕ) (two : Option (List ℕ)) where
  abbrev AreKept : Type 0
  AreKept = KeepsWrites ⊥ (named_bytes (Some first) (Some one) (named_bytes second two [])) (Some files) (Some later)

  -- the first has its text, where the other one has another name
  first-kept : AreKept → second ≢ Some first → later first ≡ Some one
  first-kept (inl (never, wrote)) apart = absurd never
  first-kept (inr (Some between, wrote, kept)) apart =
      kept-at (λ name. second ≡ Some name) first apart ⊥ (named_bytes second two []) between later (bytes-named (λ name. second ≡ Some name) second two [] (λ name is. is) tt) kept
      ∙ wrote.done (λ never. never)
  first-kept (inr (None, wrote, kept)) apart = elim wrote [ ]

  -- and the second one always
  second-kept : AreKept → (name text : List ℕ) → second ≡ Some name → two ≡ Some text → later name ≡ Some text
  second-kept (inl (never, wrote)) name text named there = absurd never
  second-kept (inr (Some between, wrote, kept)) name text named there =
      kept-one between later name text
      (subst (λ b. KeepsWrites ⊥ (named_bytes (Some name) b []) (Some between) (Some later)) there (subst (λ n. KeepsWrites ⊥ (named_bytes n two []) (Some between) (Some later)) named kept))
  second-kept (inr (None, wrote, kept)) name text named there = elim wrote [ ]

-- ---- what was made
-- a network of which tables were made is sound
pub sound : (inputs : FactorInputs) → AreFitToMake inputs → ArePositive inputs.reactances → IsSound inputs.network inputs.reactances None
sound inputs fit positive = record { network_is = fit.network; reactances = fit.reactances; positive = positive; joined = fit.joined }

-- a table of outage factors that is there was wanted
pub loss-made : (inputs : FactorInputs) (wanted : Bool) (places : FactorPlaces) (loss : Option FactorRecords) (table : FactorRecords) → loss ≡ Some table
    → IsLossIfWanted inputs wanted places loss → IsLossTable inputs places table
loss-made inputs wanted places loss table there is = by wanted (subst (IsLossIfWanted inputs wanted places) there is)
  where
    by : (wanted : Bool) → IsLossIfWanted inputs wanted places (Some table) → IsLossTable inputs places table
    by true is = is
    by false is = absurd is

-- ---- the law
module _ (shift_back : ShiftTablesAreReadBack) (loss_back : LossTablesAreReadBack) (names : FactorNames) (inputs : FactorInputs) (files later : Files) (t : Telling) (text : List ℕ) (s : Status) (words : t.text ≡ text) (ends : t.status ≡ s) where
  abbrev Kept : Telling → Type 0
  Kept e = KeepsWrites ⊥ (named_outputs (tabled names.ptdf_out names.lodf_out) e.outputs) (Some files) (Some later)

  -- what is told, as the text and the status that were put, and the files that were written
  as-told : (e : Telling) → t ≡ e → (Kept e → IsFactored names inputs files later e.text e.status) → Kept t → IsFactored names inputs files later text s
  as-told e is here kept =
      subst (λ x. IsFactored names inputs files later x s) (sym (ap (λ (x : Telling). x.text) is) ∙ words)
      (subst (IsFactored names inputs files later e.text) (sym (ap (λ (x : Telling). x.status) is) ∙ ends) (here (subst Kept is kept)))

  -- where there are no outputs no file is touched
  untouched : (e : Telling) → e.outputs ≡ certified None → Kept e → SameFiles (Some files) (Some later)
  untouched e none kept = (subst (λ w. KeepsWrites ⊥ w (Some files) (Some later)) (no-outputs (tabled names.ptdf_out names.lodf_out) e.outputs none) kept).1

  of-stop : (why : MakeStop Fraction) → IsFactorsStop (most_of Bits127) inputs (is_some names.lodf_out) names.places why → TellsStop (most_of Bits127) why t → Kept t → IsFactored names inputs files later text s
  of-stop (make_stop.TooMany count) stops is = as-told _ is (λ kept. refused_tables (factor_fault.TooMany count) stops refl (untouched (refusal_of (refusal.Factors (factor_fault.TooMany count))) refl kept))
  of-stop (make_stop.NotPositive branch) stops is = as-told _ is (λ kept. refused_tables (factor_fault.NotPositive branch) stops refl (untouched (refusal_of (refusal.Factors (factor_fault.NotPositive branch))) refl kept))
  of-stop (make_stop.Passed p) stops (within, is) = as-told _ is (λ kept. passed_tables p stops within refl (untouched (uncertified status.Range (range_text p)) refl kept))
  of-stop make_stop.Memory stops never = absurd never

  abbrev shift_text : MadeTables → List ℕ
  shift_text tables = factor_table_text column.Bus tables.shift.entries

  abbrev loss_text : FactorRecords → List ℕ
  loss_text loss = factor_table_text column.Outage loss.entries

  of-tables : TellsFactorsOf names inputs t → Kept t → IsFactored names inputs files later text s
  of-tables (fit, stopped why stops tells) = of-stop why stops tells
  of-tables (fit, made tables are is) =
      as-told (tables_telling tables) is
      (λ kept. made_tables tables are refl (record {
        shift = first-kept files later names.ptdf_out names.lodf_out (shift_text tables) (option_map loss_text tables.loss) kept;
        loss = λ file loss named there. second-kept files later names.ptdf_out names.lodf_out (shift_text tables) (option_map loss_text tables.loss) kept file (loss_text loss) named (ap (option_map loss_text) there);
        shift_read = (shift_back inputs.network inputs.reactances names.places tables.shift (sound inputs fit are.shift.positive) are.shift.made).1;
        loss_read = λ loss there. loss-back loss (loss-made inputs (is_some names.lodf_out) names.places tables.loss loss there are.loss);
      }))
    where
      loss-back : (loss : FactorRecords) → IsLossTable inputs names.places loss → loss_of inputs.network (loss_text loss) names.places ≡ Ok loss
      loss-back loss is = (loss_back inputs.network inputs.reactances inputs.outages names.places loss (sound inputs fit is.positive) fit.outages is.made).1

-- what a run writes that was asked for tables
pub factors-kept : (words : List (List ℕ)) (files later : Files) (text : List ℕ) (s : Status) (run : Prints words files text s) → run.after.files ≡ Some later → (names : FactorNames) → AsksFactors words names
    → KeepsWrites ⊥ (named_outputs (tabled names.ptdf_out names.lodf_out) (printed words files text s run).telling.outputs) (Some files) (Some later)
factors-kept words files later text s run now names asks =
    let p = printed words files text s run in
    let written = factors-written files words p.telling p.written names asks p.answers in
    subst (λ a. KeepsWrites ⊥ (named_outputs (tabled names.ptdf_out names.lodf_out) p.telling.outputs) (Some files) a) now (subst (λ w. KeepsWrites ⊥ w (Some files) run.after.files) written p.kept)

pub law_of_factors : ShiftTablesAreReadBack → LossTablesAreReadBack → LawOfFactors
law_of_factors shift_back loss_back words files later text s inputs run now asks =
    let p = printed words files text s run in
    of-tables shift_back loss_back asks.names inputs files later p.telling text s p.text_is p.status_is (factors-told files words p.telling p.written (Ok inputs) p.answers asks)
    (factors-kept words files later text s run now asks.names asks.asks)
