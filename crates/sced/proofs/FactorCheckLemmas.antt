-- A check of tables that were made says that all is within what rounding explains.
use Rattle.std.specs.Prelude.{◌≡◌, ℕ, ◌+◌, ◌*◌, ◌≤◌, ℤ, Bool, true, false, nat_lt, if◌then◌else◌, List, [], length, is_some, Option, Some, None, Result, Ok, Err}
use Rattle.std.specs.Option.{option_map_or}
use Rattle.std.proofs.Common.{arith, inl, inr, refl, sym, subst, ap, ◌∙◌}
use Rattle.std.proofs.lemmas.List.{append-nil}
use Rattle.csv.proofs.OnLiterals.{csv_on_literals}
use Rattle.csv_table.specs.Table.{frame_of, header_line, table_of}
use Rattle.outside_store.specs.Files.{Files}
use Rattle.record_reading.specs.Records.{Record, first_ragged}
use Rattle.record_reading.specs.Gathering.{gather}
use Rattle.record_reading.specs.Steps.{and_then, or_as}
use Rattle.factor_laws.specs.Laws.{LossTablesAreExplained, LossTablesAreReadBack, LossTablesAreShort, ShiftTablesAreExplained, ShiftTablesAreShort}
use Rattle.factor_maker.specs.Made.{IsMadeLoss}
use Rattle.factor_maker.specs.Stops.{loss_count, shift_count}
use Rattle.factor_tables.specs.declared.by_pair.Column.TheVariants as column
use Rattle.factor_tables.specs.declared.table_fault.TableFault.{TableFault}
use Rattle.factor_tables.specs.Factors.{FactorRecords}
use Rattle.factor_tables.specs.OutageNumbers.{outage_header, outage_rows_of}
use Rattle.factor_tables.specs.Tables.{loss_header, loss_of, shift_of}
use Rattle.factor_text.specs.Texts.{factor_table_text}
use Rattle.market_data.specs.declared.scales.FactorPlaces.{FactorPlaces}
use Rattle.market_inputs.specs.Checking.{AreInputs, inputs_of}
use Rattle.market_inputs.specs.Files.{most_file, sized, sized_grid}
use Rattle.market_inputs.specs.Making.{AreFactorInputs, AreFitToMake}
use Rattle.market_inputs.specs.Steps.{Onward, Then}
use Rattle.market_inputs.specs.Tables.{AreOutagesIn, AreTables, loss_in, outage_numbers_in, shift_in}
use Rattle.market_inputs.specs.declared.checking.Inputs.{Inputs}
use Rattle.market_inputs.specs.declared.making.FactorInputs.{FactorInputs}
use Rattle.market_inputs.proofs.FileLemmas.{sized-short}
use Rattle.market_inputs.proofs.OnceLemmas.{factor-inputs-once}
use Rattle.market_tables.specs.Tables.{GridTexts}
use Rattle.net_case.specs.Networks.{LiveNetwork}
use Rattle.outage_list.specs.Listing.{AreOutages}
use Rattle.refusal_text.specs.declared.refusals.Input.TheVariants as input
use Rattle.refusal_text.specs.declared.refusals.Refusal.{Refusal}
use Rattle.refusal_text.specs.declared.refusals.Refusal.TheVariants as refusal
use Rattle.command_words.specs.Words.{FactorNames, IsFactorFile, IsFactorTable}
use Rattle.command_answers.specs.Checking.{AreResiduals, check_status_of}
use Rattle.command_answers.specs.Factors.{AreMadeTables, IsLossIfWanted, IsLossTable, IsShiftTable}
use Rattle.command_answers.specs.Tellings.{Telling, tabled}
use Rattle.command_answers.specs.declared.checking.Residuals.{Residuals}
use Rattle.command_answers.specs.declared.factors.MadeTables.{MadeTables}
use Rattle.command_answers.specs.declared.status.Status.{Status}
use Rattle.command_answers.specs.declared.status.Status.TheVariants as status
use Rattle.command_files.specs.Reading.{IsTableFile, in_file, source_of}
use Rattle.command_files.specs.Standing.{AreCheckFiles, AreFactorFiles}
use Rattle.sced.specs.Asked.{AsksToCheck}
use Rattle.sced.specs.Headline.{AreFilesApart, HaveTables, IsFactored, LawOfFactorCheck, LawOfFactors, check_of, made_tables, passed_tables, refused_tables}
use Rattle.sced.specs.Runs.{KeepsWrites}
use Rattle.sced.specs.Told.{named_outputs}
use Rattle.sced.proofs.AskedLemmas.{check-told, factors-told, same-bytes, same-table}
use Rattle.sced.proofs.FactorLemmas.{factors-kept, sound}
use Rattle.sced.proofs.HeadlineLemmas.{AllNamed, bytes-named, kept-at}
use Rattle.sced.proofs.RunLemmas.{printed}

-- ---- what a check works on
-- a step whose next one came to something made something
then-made : {A B : Type 0} (P : Result A Refusal → Type 0) (Q : A → Result B Refusal → Type 0) (b : B) → Then P Q (Ok b) → (a : A) × P (Ok a) × Q a (Ok b)
then-made {A} {B} P Q b h = by h.made h.is h.rest
  where
    by : (made : Result A Refusal) → P made → Onward made Q (Ok b) → (a : A) × P (Ok a) × Q a (Ok b)
    by (Ok a) is rest = (a, is, rest)
    by (Err r) is rest = cc rest

abbrev no_name : Option (List ℕ)
no_name = None

abbrev made_or : {A : Type 0} → A → Result A Refusal → A
made_or a (Ok b) = b
made_or a (Err r) = a

one-made : {A : Type 0} (a b : A) → ◌≡◌ {A = Result A Refusal} (Ok a) (Ok b) → a ≡ b
one-made a b same = ap (made_or a) same

-- of it, what tables may be made of
abbrev makings : Inputs → FactorInputs
makings checked = record { network = checked.network; reactances = checked.reactances; outages = checked.outages }

record AreCheckParts (places : FactorPlaces) (texts : GridTexts) (checked : Inputs) : Type 0 where
  work : AreFactorInputs texts.case texts.contingencies (Ok (makings checked))
  shift : shift_in places checked.network (sized (refusal.TooLong input.Ptdf) texts.ptdf) ≡ Ok checked.shift
  loss : loss_in places checked.network (sized (refusal.TooLong input.Lodf) texts.lodf) ≡ Ok checked.loss

check-parts : (places : FactorPlaces) (texts : GridTexts) (checked : Inputs) → AreInputs places (sized_grid texts) (Ok checked) → AreCheckParts places texts checked
check-parts places texts checked h =
    let (matrices, m, in-case) = then-made _ _ checked h in
    let (network, n, in-network) = then-made _ _ checked in-case in
    let (reactances, x, in-reactances) = then-made _ _ checked in-network in
    let (tables, ts, all) = then-made _ _ checked in-reactances in
    let (shift, sh, in-shift) = then-made _ _ tables ts in
    let (loss, l, in-loss) = then-made _ _ tables in-shift in
    let (outages, o, of-tables) = then-made _ _ tables in-loss in
    let parts = one-made _ tables of-tables in
    let whole = one-made _ checked all in
    subst (AreCheckParts places texts) whole (subst (λ t. AreCheckParts places texts (inputs_of network reactances t)) parts (record {
      work = record { made = Ok matrices; is = m; rest = record { made = Ok network; is = n; rest = record { made = Ok reactances; is = x; rest = record { made = Ok outages; is = o; rest = refl } } } };
      shift = sh;
      loss = l;
    }))

-- a table that was read of bytes
seen-table : (which : TableFault → Refusal) (read : Result FactorRecords TableFault) (table : FactorRecords) → or_as which read ≡ Ok table → read ≡ Ok table
seen-table which (Ok x) table is = cc is
seen-table which (Err e) table is = cc is

sized-table : (long : Bool) (too_long : Refusal) (which : TableFault → Refusal) (read : List ℕ → Result FactorRecords TableFault) (bytes : List ℕ) (table : FactorRecords)
    → and_then (if long then Err too_long else Ok bytes) (λ text. or_as which (read text)) ≡ Ok table → read bytes ≡ Ok table
sized-table true too_long which read bytes table is = cc is
sized-table false too_long which read bytes table is = seen-table which (read bytes) table is

table-read : (too_long : Refusal) (which : TableFault → Refusal) (read : List ℕ → Result FactorRecords TableFault) (bytes : List ℕ) (table : FactorRecords)
    → and_then (sized too_long bytes) (λ text. or_as which (read text)) ≡ Ok table → read bytes ≡ Ok table
unfolding sized
table-read too_long which read bytes table is = sized-table (nat_lt most_file (length bytes)) too_long which read bytes table is

abbrev records_or : FactorRecords → Result FactorRecords TableFault → FactorRecords
records_or r (Ok x) = x
records_or r (Err e) = r

one-table : (a b : FactorRecords) (read : Result FactorRecords TableFault) → read ≡ Ok a → read ≡ Ok b → a ≡ b
one-table a b read first second = sym (ap (records_or a) first) ∙ ap (records_or a) second

-- ---- files that were read are as they were
module _ (names : FactorNames) (files later : Files) (t : Telling) (kept : KeepsWrites ⊥ (named_outputs (tabled names.ptdf_out names.lodf_out) t.outputs) (Some files) (Some later)) (apart : AreFilesApart names) where
  tables-are-named : AllNamed (IsFactorTable names) (named_outputs (tabled names.ptdf_out names.lodf_out) t.outputs)
  tables-are-named =
      bytes-named (IsFactorTable names) (Some names.ptdf_out) t.outputs.ptdf _ (λ name is. inl (let same : names.ptdf_out ≡ name = cc is in sym same))
      (bytes-named (IsFactorTable names) names.lodf_out t.outputs.lodf [] (λ name is. inr is) tt)

  stays : (file : List ℕ) → IsFactorFile names file → later file ≡ files file
  stays file is = kept-at (IsFactorTable names) file (apart.inputs file is) ⊥ (named_outputs (tabled names.ptdf_out names.lodf_out) t.outputs) files later tables-are-named kept

  table-stays : (o : Option (List ℕ)) (header : Record) (text : List ℕ) → ((file : List ℕ) → o ≡ Some file → IsFactorFile names file) → IsTableFile later (source_of header o) text → IsTableFile files (source_of header o) text
  table-stays (Some file) header text read is = sym (stays file (read file refl)) ∙ is
  table-stays None header text read is = is

  table-kept : (o : Option (List ℕ)) (header : Record) (text : List ℕ) → ((file : List ℕ) → o ≡ Some file → IsFactorFile names file) → IsTableFile files (source_of header o) text → IsTableFile later (source_of header o) text
  table-kept (Some file) header text read is = stays file (read file refl) ∙ is
  table-kept None header text read is = is

-- ---- within rounding
module _ (shift_explained : ShiftTablesAreExplained) (loss_explained : LossTablesAreExplained) (names : FactorNames) (inputs : FactorInputs) (fit : AreFitToMake inputs) (tables : MadeTables) (loss : FactorRecords)
    (wanted : Bool) (are : AreMadeTables inputs wanted names.places tables) (is-loss : IsLossTable inputs names.places loss) where
  explained : (checked : Inputs) (r : Residuals) → makings checked ≡ inputs → checked.shift ≡ tables.shift → checked.loss ≡ loss → AreResiduals checked r → check_status_of r ≡ status.Done
  explained checked r same same_shift same_loss residuals =
      let network = ap (λ (x : FactorInputs). x.network) same in
      let reactances = ap (λ (x : FactorInputs). x.reactances) same in
      let outages = ap (λ (x : FactorInputs). x.outages) same in
      let is-sound = sound inputs fit are.shift.positive in
      let of-shift = shift_explained inputs.network inputs.reactances names.places tables.shift is-sound are.shift.made in
      let of-loss = loss_explained inputs.network inputs.reactances inputs.outages names.places loss is-sound fit.outages is-loss.made in
      let bus = of-shift.0 r.bus (rw (network, same_shift) at residuals.bus) in
      let round = of-shift.1 r.round (rw (network, reactances, same_shift) at residuals.round) in
      let outage_bus = of-loss.0 r.outage_bus (rw (network, outages, same_loss) at residuals.outage_bus) in
      let outage_round = of-loss.1 r.outage_round (rw (network, reactances, outages, same_loss) at residuals.outage_round) in
      rw (bus, round, outage_bus, outage_round) refl

-- outage factors are there where a file is named for them
loss-there : (inputs : FactorInputs) (places : FactorPlaces) (file : List ℕ) (o : Option (List ℕ)) (made : Option FactorRecords) → o ≡ Some file → IsLossIfWanted inputs (is_some o) places made
    → (loss : FactorRecords) × (made ≡ Some loss) × IsLossTable inputs places loss
loss-there inputs places file (Some f) (Some loss) named is = (loss, refl, is)
loss-there inputs places file (Some f) None named is = absurd is
loss-there inputs places file None made named is = let wrong : no_name ≡ Some file = named in cc wrong

-- ---- shift factors alone
-- the header alone lists no outages
no-numbers : (too_long : Refusal) → outage_numbers_in (sized too_long (header_line outage_header)) ≡ Ok []
unfolding csv_on_literals first_ragged frame_of table_of gather outage_rows_of sized
no-numbers too_long = refl

none-listed : (network : LiveNetwork) → AreOutages network []
none-listed network = record { each = λ i d lt. absurd (omega (arith, lt)); distinct = λ i j d p q. absurd (omega (arith, q)) }

header-lists-none : (network : LiveNetwork) (too_long : Refusal) → AreOutagesIn network (sized too_long (header_line outage_header)) (Ok [])
header-lists-none network too_long = record {
  made = Ok [];
  is = no-numbers too_long;
  rest = record { listed = Ok []; is = (refl, none-listed network); made = λ e. absurd (cc e); same = refl };
}

-- the same network without outages
abbrev alone : FactorInputs → FactorInputs
alone inputs = record { network = inputs.network; reactances = inputs.reactances; outages = [] }

alone-work : (case outages : List ℕ) (inputs : FactorInputs) → AreFactorInputs case outages (Ok inputs) → AreFactorInputs case (header_line outage_header) (Ok (alone inputs))
alone-work case outages inputs h =
    let (matrices, m, in-case) = then-made _ _ inputs h in
    let (network, n, in-network) = then-made _ _ inputs in-case in
    let (reactances, x, in-reactances) = then-made _ _ inputs in-network in
    let (listed, o, all) = then-made _ _ inputs in-reactances in
    let whole = one-made _ inputs all in
    subst (λ (i : FactorInputs). AreFactorInputs case (header_line outage_header) (Ok (alone i))) whole (record {
      made = Ok matrices;
      is = m;
      rest = record { made = Ok network; is = n; rest = record { made = Ok reactances; is = x; rest = record { made = Ok []; is = header-lists-none network (refusal.TooLong input.Contingencies); rest = refl } } };
    })

alone-fit : (inputs : FactorInputs) → AreFitToMake inputs → AreFitToMake (alone inputs)
alone-fit inputs fit = record { network = fit.network; joined = fit.joined; reactances = fit.reactances; outages = none-listed inputs.network }

-- a table without records is that of the factors of no outages
abbrev no_factors : FactorPlaces → FactorRecords
no_factors places = record { places = places; entries = [] }

none-made : (network : LiveNetwork) (xs : List ℤ) (places : FactorPlaces) → IsMadeLoss network xs [] places (no_factors places)
none-made network xs places = record { places_are = refl; lost = []; lost_are = tt; entries = tt }

no-text : factor_table_text column.Outage [] ≡ header_line loss_header
unfolding factor_table_text
no-text = append-nil (header_line loss_header)

alone-tables : (inputs : FactorInputs) (places : FactorPlaces) (shift : FactorRecords) → IsShiftTable inputs places shift → AreMadeTables (alone inputs) false places (record { shift = shift; loss = None })
alone-tables inputs places shift is = record { shift = record { few = is.few; positive = is.positive; made = is.made }; loss = tt }

none-there : (inputs : FactorInputs) (places : FactorPlaces) (shift : FactorRecords) → IsShiftTable inputs places shift → IsLossTable (alone inputs) places (no_factors places)
none-there inputs places shift is = record { few = omega arith; positive = is.positive; made = none-made inputs.network inputs.reactances places }

-- ---- what was made is read
few-fit : (count text : ℕ) → count ≤ 1000000 → text ≤ 32 * (1 + count) → text ≤ 33554432
few-fit count text few long = omega (arith, few, long)

table-in : (too_long : Refusal) (which : TableFault → Refusal) (read : List ℕ → Result FactorRecords TableFault) (text : List ℕ) (table : FactorRecords) → length text ≤ most_file → read text ≡ Ok table
    → and_then (sized too_long text) (λ bytes. or_as which (read bytes)) ≡ Ok table
table-in too_long which read text table few is = ap (λ s. and_then s (λ bytes. or_as which (read bytes))) (sized-short too_long text few) ∙ ap (or_as which) is

-- what tables were made of, with two tables
abbrev with_tables : FactorInputs → FactorRecords → FactorRecords → Inputs
with_tables inputs shift loss = record { network = inputs.network; reactances = inputs.reactances; shift = shift; loss = loss; outages = inputs.outages }

check-inputs : (places : FactorPlaces) (texts : GridTexts) (inputs : FactorInputs) (shift loss : FactorRecords) → AreFactorInputs texts.case texts.contingencies (Ok inputs)
    → shift_in places inputs.network (sized (refusal.TooLong input.Ptdf) texts.ptdf) ≡ Ok shift → loss_in places inputs.network (sized (refusal.TooLong input.Lodf) texts.lodf) ≡ Ok loss
    → AreInputs places (sized_grid texts) (Ok (with_tables inputs shift loss))
check-inputs places texts inputs shift loss work is-shift is-loss =
    let (matrices, m, in-case) = then-made _ _ inputs work in
    let (network, n, in-network) = then-made _ _ inputs in-case in
    let (reactances, x, in-reactances) = then-made _ _ inputs in-network in
    let (listed, o, all) = then-made _ _ inputs in-reactances in
    let whole = one-made _ inputs all in
    let back = sym (ap (λ (i : FactorInputs). i.network) whole) in
    let of-shift = subst (λ (net : LiveNetwork). shift_in places net (sized (refusal.TooLong input.Ptdf) texts.ptdf) ≡ Ok shift) back is-shift in
    let of-loss = subst (λ (net : LiveNetwork). loss_in places net (sized (refusal.TooLong input.Lodf) texts.lodf) ≡ Ok loss) back is-loss in
    let are : AreTables places network (sized_grid texts) (Ok (record { shift = shift; loss = loss; outages = listed })) =
    record { made = Ok shift; is = of-shift; rest = record { made = Ok loss; is = of-loss; rest = record { made = Ok listed; is = o; rest = refl } } } in
    subst (λ (i : FactorInputs). AreInputs places (sized_grid texts) (Ok (with_tables i shift loss))) whole (record {
      made = Ok matrices;
      is = m;
      rest = record { made = Ok network; is = n; rest = record { made = Ok reactances; is = x; rest = record { made = Ok (record { shift = shift; loss = loss; outages = listed }); is = are; rest = refl } } };
    })

module _ (names : FactorNames) (inputs : FactorInputs) (files later : Files) (t : Telling) (kept : KeepsWrites ⊥ (named_outputs (tabled names.ptdf_out names.lodf_out) t.outputs) (Some files) (Some later))
    (apart : AreFilesApart names) (stand : AreFactorFiles files names (Ok inputs)) (loss_back : LossTablesAreReadBack) (shift_short : ShiftTablesAreShort) (loss_short : LossTablesAreShort) (fit : AreFitToMake inputs)
    (tables : MadeTables) (have : HaveTables names inputs.network tables later) (are : AreMadeTables inputs (is_some names.lodf_out) names.places tables) where
  abbrev shift_text : List ℕ
  shift_text = factor_table_text column.Bus tables.shift.entries

  case-kept : later names.case ≡ Some stand.case
  case-kept = stays names files later t kept apart names.case (inl refl) ∙ stand.case_is

  shift-there : shift_in names.places inputs.network (sized (refusal.TooLong input.Ptdf) shift_text) ≡ Ok tables.shift
  shift-there =
      let long = shift_short inputs.network inputs.reactances names.places tables.shift (sound inputs fit are.shift.positive) are.shift.made in
      table-in (refusal.TooLong input.Ptdf) (refusal.Table input.Ptdf) (λ bytes. shift_of inputs.network bytes names.places) shift_text tables.shift
      (few-fit (shift_count inputs.network) (length shift_text) are.shift.few long) have.shift_read

  -- both tables, with the outages
  accepted-both : (file : List ℕ) → names.lodf_out ≡ Some file → (checked : Inputs) × AreCheckFiles later (check_of names) (Ok checked)
  accepted-both file named =
      let (loss, there, is-loss) = loss-there inputs names.places file names.lodf_out tables.loss named are.loss in
      let text = factor_table_text column.Outage loss.entries in
      let long = loss_short inputs.network inputs.reactances inputs.outages names.places loss (sound inputs fit is-loss.positive) fit.outages is-loss.made in
      let loss-in = table-in (refusal.TooLong input.Lodf) (refusal.Table input.Lodf) (λ bytes. loss_of inputs.network bytes names.places) text loss
      (few-fit (loss_count inputs.network inputs.outages) (length text) is-loss.few long) (have.loss_read loss there) in
      let texts : GridTexts = record { case = stand.case; ptdf = shift_text; lodf = text; contingencies = stand.outages } in
      let outages = table-kept names files later t kept apart names.contingencies outage_header stand.outages (λ name is. inr is) stand.outages_are in (
        with_tables inputs tables.shift loss,
        record {
          texts = texts;
          have = record {
            case = case-kept;
            ptdf = have.shift apart.outputs;
            lodf = subst (λ o. IsTableFile later (source_of loss_header o) text) (sym named) (have.loss file loss named there);
            contingencies = subst (λ o. IsTableFile later (source_of outage_header (option_map_or (λ _. names.contingencies) o None)) stand.outages) (sym named) outages;
          };
          inputs = check-inputs names.places texts inputs tables.shift loss stand.work shift-there loss-in;
        },
      )

  -- and that of shift factors alone, without outages
  accepted-alone : names.lodf_out ≡ None → (checked : Inputs) × AreCheckFiles later (check_of names) (Ok checked)
  accepted-alone named =
      let back = (loss_back inputs.network inputs.reactances [] names.places (no_factors names.places) (sound inputs fit are.shift.positive) (none-listed inputs.network) (none-made inputs.network inputs.reactances names.places)).1 in
      let loss-in = table-in (refusal.TooLong input.Lodf) (refusal.Table input.Lodf) (λ bytes. loss_of inputs.network bytes names.places) (header_line loss_header) (no_factors names.places)
      (omega arith) (subst (λ text. loss_of inputs.network text names.places ≡ Ok (no_factors names.places)) no-text back) in
      let texts : GridTexts = record { case = stand.case; ptdf = shift_text; lodf = header_line loss_header; contingencies = header_line outage_header } in (
        with_tables (alone inputs) tables.shift (no_factors names.places),
        record {
          texts = texts;
          have = record {
            case = case-kept;
            ptdf = have.shift apart.outputs;
            lodf = subst (λ o. IsTableFile later (source_of loss_header o) (header_line loss_header)) (sym named) refl;
            contingencies = subst (λ o. IsTableFile later (source_of outage_header (option_map_or (λ _. names.contingencies) o None)) (header_line outage_header)) (sym named) refl;
          };
          inputs = check-inputs names.places texts (alone inputs) tables.shift (no_factors names.places) (alone-work stand.case stand.outages inputs stand.work) shift-there loss-in;
        },
      )

  accepted : (o : Option (List ℕ)) → names.lodf_out ≡ o → (checked : Inputs) × AreCheckFiles later (check_of names) (Ok checked)
  accepted (Some file) named = accepted-both file named
  accepted None named = accepted-alone named

-- ---- what is read again
module _ (names : FactorNames) (inputs : FactorInputs) (checked : Inputs) (files later : Files) (t : Telling) (kept : KeepsWrites ⊥ (named_outputs (tabled names.ptdf_out names.lodf_out) t.outputs) (Some files) (Some later))
    (apart : AreFilesApart names) (stand : AreFactorFiles files names (Ok inputs)) (again : AreCheckFiles later (check_of names) (Ok checked)) where
  same-case : again.texts.case ≡ stand.case
  same-case = same-bytes again.texts.case stand.case (files names.case) (sym (stays names files later t kept apart names.case (inl refl)) ∙ again.have.case) stand.case_is

  parts : AreCheckParts names.places again.texts checked
  parts = check-parts names.places again.texts checked again.inputs

  -- the work of the case, with these outages
  same-work : (outages : List ℕ) → again.texts.contingencies ≡ outages → AreFactorInputs stand.case outages (Ok (makings checked))
  same-work outages same =
      subst (λ o. AreFactorInputs stand.case o (Ok (makings checked))) same (subst (λ c. AreFactorInputs c again.texts.contingencies (Ok (makings checked))) same-case parts.work)

  same-shift : checked.network ≡ inputs.network → (tables : MadeTables) → HaveTables names inputs.network tables later → checked.shift ≡ tables.shift
  same-shift same_network tables have =
      let text : again.texts.ptdf ≡ factor_table_text column.Bus tables.shift.entries = same-bytes again.texts.ptdf (factor_table_text column.Bus tables.shift.entries) (later names.ptdf_out) again.have.ptdf (have.shift apart.outputs) in
      let read = table-read (refusal.TooLong input.Ptdf) (refusal.Table input.Ptdf) (λ bytes. shift_of checked.network bytes names.places) again.texts.ptdf checked.shift parts.shift in
      let here : shift_of inputs.network (factor_table_text column.Bus tables.shift.entries) names.places ≡ Ok checked.shift =
      subst (λ bytes. shift_of inputs.network bytes names.places ≡ Ok checked.shift) text (subst (λ n. shift_of n again.texts.ptdf names.places ≡ Ok checked.shift) same_network read) in
      one-table checked.shift tables.shift (shift_of inputs.network (factor_table_text column.Bus tables.shift.entries) names.places) here have.shift_read

  -- a table of outage factors, by its text
  same-loss : checked.network ≡ inputs.network → (loss : FactorRecords) (text : List ℕ) → again.texts.lodf ≡ text → loss_of inputs.network text names.places ≡ Ok loss → checked.loss ≡ loss
  same-loss same_network loss text is back =
      let read = table-read (refusal.TooLong input.Lodf) (refusal.Table input.Lodf) (λ bytes. loss_of checked.network bytes names.places) again.texts.lodf checked.loss parts.loss in
      let here : loss_of inputs.network text names.places ≡ Ok checked.loss =
      subst (λ bytes. loss_of inputs.network bytes names.places ≡ Ok checked.loss) is (subst (λ n. loss_of n again.texts.lodf names.places ≡ Ok checked.loss) same_network read) in
      one-table checked.loss loss (loss_of inputs.network text names.places) here back

  module _ (shift_explained : ShiftTablesAreExplained) (loss_explained : LossTablesAreExplained) (loss_back : LossTablesAreReadBack) (fit : AreFitToMake inputs) (tables : MadeTables) (have : HaveTables names inputs.network tables later)
      (r : Residuals) (residuals : AreResiduals checked r) where
    -- of both tables
    both-within : (file : List ℕ) → names.lodf_out ≡ Some file → AreMadeTables inputs (is_some names.lodf_out) names.places tables → check_status_of r ≡ status.Done
    both-within file named are =
        let (loss, there, is-loss) = loss-there inputs names.places file names.lodf_out tables.loss named are.loss in
        let listed : IsTableFile later (source_of outage_header names.contingencies) again.texts.contingencies =
        subst (λ o. IsTableFile later (source_of outage_header (option_map_or (λ _. names.contingencies) o None)) again.texts.contingencies) named again.have.contingencies in
        let outages : again.texts.contingencies ≡ stand.outages =
        same-table files (source_of outage_header names.contingencies) again.texts.contingencies stand.outages
        (table-stays names files later t kept apart names.contingencies outage_header again.texts.contingencies (λ name is. inr is) listed) stand.outages_are in
        let same = one-made (makings checked) inputs (factor-inputs-once stand.case stand.outages (Ok (makings checked)) (Ok inputs) (same-work stand.outages outages) stand.work) in
        let network = ap (λ (x : FactorInputs). x.network) same in
        let was : IsTableFile later (in_file file) again.texts.lodf = subst (λ o. IsTableFile later (source_of loss_header o) again.texts.lodf) named again.have.lodf in
        let text = same-bytes again.texts.lodf (factor_table_text column.Outage loss.entries) (later file) was (have.loss file loss named there) in
        explained shift_explained loss_explained names inputs fit tables loss (is_some names.lodf_out) are is-loss checked r same (same-shift network tables have)
        (same-loss network loss (factor_table_text column.Outage loss.entries) text (have.loss_read loss there)) residuals

    -- and of shift factors alone
    shift-within : names.lodf_out ≡ None → AreMadeTables inputs (is_some names.lodf_out) names.places tables → check_status_of r ≡ status.Done
    shift-within named are =
        let outages : again.texts.contingencies ≡ header_line outage_header =
        subst (λ o. IsTableFile later (source_of outage_header (option_map_or (λ _. names.contingencies) o None)) again.texts.contingencies) named again.have.contingencies in
        let same = one-made (makings checked) (alone inputs)
        (factor-inputs-once stand.case (header_line outage_header) (Ok (makings checked)) (Ok (alone inputs)) (same-work (header_line outage_header) outages) (alone-work stand.case stand.outages inputs stand.work)) in
        let network = ap (λ (x : FactorInputs). x.network) same in
        let is-sound = sound inputs fit are.shift.positive in
        let read = loss_back inputs.network inputs.reactances [] names.places (no_factors names.places) is-sound (none-listed inputs.network) (none-made inputs.network inputs.reactances names.places) in
        let back = subst (λ text. loss_of inputs.network text names.places ≡ Ok (no_factors names.places)) no-text read.1 in
        let text : again.texts.lodf ≡ header_line loss_header = subst (λ o. IsTableFile later (source_of loss_header o) again.texts.lodf) named again.have.lodf in
        explained shift_explained loss_explained names (alone inputs) (alone-fit inputs fit) (record { shift = tables.shift; loss = None }) (no_factors names.places) false (alone-tables inputs names.places tables.shift are.shift)
        (none-there inputs names.places tables.shift are.shift) checked r same (same-shift network tables have) (same-loss network (no_factors names.places) (header_line loss_header) text back) residuals

    within : (o : Option (List ℕ)) → names.lodf_out ≡ o → AreMadeTables inputs (is_some names.lodf_out) names.places tables → check_status_of r ≡ status.Done
    within (Some file) named are = both-within file named are
    within None named are = shift-within named are

-- where tables were made
tables-of : (names : FactorNames) (inputs : FactorInputs) (files later : Files) (text : List ℕ) (s : Status) → s ≡ status.Done → IsFactored names inputs files later text s
    → (tables : MadeTables) × AreMadeTables inputs (is_some names.lodf_out) names.places tables × HaveTables names inputs.network tables later
tables-of names inputs files later text _ done (made_tables tables are is have) = (tables, are, have)
tables-of names inputs files later text _ done (refused_tables fault stops is same) = let wrong : status.Refused ≡ status.Done = done in cc wrong
tables-of names inputs files later text _ done (passed_tables p stops sides is same) = let wrong : status.Range ≡ status.Done = done in cc wrong

pub law_of_factor_check : LawOfFactors → ShiftTablesAreExplained → LossTablesAreExplained → LossTablesAreReadBack → ShiftTablesAreShort → LossTablesAreShort → LawOfFactorCheck
law_of_factor_check law_of_factors shift_explained loss_explained loss_back shift_short loss_short words again files later text answer s t inputs run now asks done apart verify check =
    let p = printed words files text s run in
    let q = printed again later answer t verify in
    let tells = factors-told files words p.telling p.written (Ok inputs) p.answers asks in
    let kept = factors-kept words files later text s run now asks.names asks.asks in
    let (tables, are, have) = tables-of asks.names inputs files later text s done (law_of_factors words files later text s inputs run now asks) in
    let (checked, stand) = accepted asks.names inputs files later p.telling kept apart asks.stand loss_back shift_short loss_short tells.0 tables have are asks.names.lodf_out refl in
    let asks-check : AsksToCheck later again (Ok checked) = record { names = check_of asks.names; asks = check; stand = stand } in
    let (r, residuals, is) = check-told later again q.telling q.written (Ok checked) q.answers asks-check in (
      (checked, asks-check),
      sym q.status_is ∙ ap (λ (x : Telling). x.status) is
          ∙ within asks.names inputs checked files later p.telling kept apart asks.stand stand shift_explained loss_explained loss_back tells.0 tables have r residuals asks.names.lodf_out refl are,
    )
