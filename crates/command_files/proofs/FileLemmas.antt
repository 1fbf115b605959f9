-- What is told of the bytes that were read is told of the files: one that is cut behind the first byte too many is too long all the same.
use Rattle.std.proofs.Common.{◌≡◌, subst, ℕ, List, Option, Some, None, Result, refl, sym, ap, ◌∙◌}
use Rattle.outside_store.specs.Files.{Files, Reads}
use Rattle.market_model.specs.declared.participants.Parts.{Parts}
use Rattle.market_data.specs.declared.scales.FactorPlaces.{FactorPlaces}
use Rattle.net_case.specs.declared.live_parts.PostRating.{PostRating}
use Rattle.refusal_text.specs.declared.refusals.Input.TheVariants as input
use Rattle.refusal_text.specs.declared.refusals.Refusal.{Refusal}
use Rattle.refusal_text.specs.declared.refusals.Refusal.TheVariants as refusal
use Rattle.market_inputs.specs.Cases.{matrices_in}
use Rattle.market_inputs.specs.Checking.{AreInputs}
use Rattle.market_inputs.specs.Clearing.{IsClearMarket}
use Rattle.market_inputs.specs.Files.{sized}
use Rattle.market_inputs.specs.Pooling.{IsPoolMarket}
use Rattle.market_inputs.specs.Replaying.{certificate_in}
use Rattle.number_bits.specs.Bits.{most_of}
use Rattle.number_bits.specs.declared.NumberBits.{NumberBits}
use Rattle.number_bits.specs.declared.NumberBits.TheVariants.{Bits127}
use Rattle.market_inputs.proofs.FileLemmas.{AreAlike, alike-grid, alike-tables, sized-cut}
use Rattle.market_tables.specs.Tables.{EachOf, GridTexts, MarketTexts}
use Rattle.market_tables.proofs.EachLemmas.{Found, found-grid, found-tables}
use Rattle.market_inputs.specs.declared.making.FactorInputs.{FactorInputs}
use Rattle.market_inputs.specs.Texts.{IsPool, IsLimited, IsCheck}
use Rattle.edit_table.specs.EditTable.{edit_header}
use Rattle.factor_tables.specs.OutageNumbers.{outage_header}
use Rattle.command_words.specs.Words.{CheckNames, FactorNames, MarketNames}
use Rattle.command_answers.specs.Checking.{TellsCheck}
use Rattle.command_answers.specs.Clearing.{TellsClear}
use Rattle.command_answers.specs.Inputs.{AreEntitled, IsCertificate, IsCertified, IsFactorWork, IsReplayed, MarketCertificate, MarketRights, MarketSteps}
use Rattle.command_answers.specs.Migrating.{TellsMigration}
use Rattle.command_answers.specs.Replaying.{TellsReplay}
use Rattle.command_answers.specs.Rights.{TellsRights}
use Rattle.command_answers.specs.Tellings.{Telling, Tells}
use Rattle.command_answers.specs.Verifying.{TellsVerdict}
use Rattle.command_files.specs.Reading.{IsTableFile, ReadsGrid, ReadsMarket, ReadsTable, Source, grid_sources, header_alone, in_file, source_of, table_sources}
use Rattle.command_files.specs.Standing.{AreCheckFiles, AreClearFiles, AreFactorFiles, ArePoolFiles, AreReplayFiles, AreRightsFiles, AreVerifyFiles, IsMigratedFile, OfFiles, TellsFactorsOf}

-- ---- a table
-- the whole text of a table that was read
pub whole-table : (f : Files) (source : Source) (bytes : List ℕ) → ReadsTable (Some f) source bytes → (whole : List ℕ) × IsTableFile f source whole × AreAlike bytes whole
whole-table f (in_file name) bytes (whole, at, cut) = (whole, at, λ file. ap (sized file) cut ∙ sized-cut file whole)
whole-table f (header_alone header) bytes read = (bytes, read, λ file. refl)

-- ---- texts that are refused alike
pub pool-same : (a b a' b' : Result (List ℕ) Refusal) (told : Result Parts Refusal) → a ≡ a' → b ≡ b' → IsPoolMarket a b told → IsPoolMarket a' b' told
pool-same a b a' b' told ea eb h = subst (λ x. IsPoolMarket a' x told) eb (subst (λ x. IsPoolMarket x b told) ea h)

pub limited-same : (rating : PostRating) (places : FactorPlaces) (a b : MarketTexts) (told : Result Parts Refusal) → EachOf AreAlike a b → IsLimited rating places a told → IsLimited rating places b told
limited-same rating places a b told same h = subst (λ files. IsClearMarket rating places files told) (alike-tables a b same) h

pub replayed-same : (rating : PostRating) (places : FactorPlaces) (a b : MarketTexts) (edits edits' : List ℕ) (told : Result MarketSteps Refusal) → EachOf AreAlike a b
    → sized (refusal.TooLong input.Edits) edits ≡ sized (refusal.TooLong input.Edits) edits' → IsReplayed rating places a edits told → IsReplayed rating places b edits' told
replayed-same rating places a b edits edits' told same same_edits h = record {
  made = h.made;
  is = limited-same rating places a b h.made same h.is;
  rest = rw same_edits at h.rest;
}

pub certified-same : (most : ℕ) (rating : PostRating) (places : FactorPlaces) (a b : MarketTexts) (edits edits' certificate certificate' : List ℕ) (told : Result MarketCertificate Refusal) → EachOf AreAlike a b
    → sized (refusal.TooLong input.Edits) edits ≡ sized (refusal.TooLong input.Edits) edits'
    → sized (refusal.TooLong input.Certificate) certificate ≡ sized (refusal.TooLong input.Certificate) certificate'
    → IsCertified most rating places a edits certificate told → IsCertified most rating places b edits' certificate' told
certified-same most rating places a b edits edits' certificate certificate' told same same_edits same_certificate h = record {
  made = h.made;
  is = replayed-same rating places a b edits edits' h.made same same_edits h.is;
  rest = rw same_certificate at h.rest;
}

-- ---- the files of a market
whole-market : (f : Files) (names : MarketNames) (bytes : MarketTexts) → ReadsMarket (Some f) names bytes → Found (IsTableFile f) AreAlike (table_sources names) bytes
whole-market f names bytes read = found-tables (ReadsTable (Some f)) (IsTableFile f) AreAlike (whole-table f) (table_sources names) bytes read

-- ---- what is told of the files
pub files-pool : (files : Option Files) (case offers case_read offers_read : List ℕ) (t : Telling) → Reads files case 33554432 case_read → Reads files offers 33554432 offers_read
    → Tells (IsPool case_read offers_read) (TellsClear (most_of Bits127)) t → OfFiles files (λ f. ArePoolFiles f case offers) (TellsClear (most_of Bits127)) t
files-pool None case offers case_read offers_read t first second right = tt
files-pool (Some f) case offers case_read offers_read t first second right =
    let a = whole-table f (in_file case) case_read first in
    let b = whole-table f (in_file offers) offers_read second in
    record {
      told = right.told;
      stands = record {
        case = a.0;
        offers = b.0;
        case_is = a.1;
        offers_is = b.1;
        market = pool-same _ _ _ _ right.told (a.2 (refusal.TooLong input.Case)) (b.2 (refusal.TooLong input.Offers)) right.stands;
      };
      comes = right.comes;
    }

pub files-clear : (files : Option Files) (names : MarketNames) (bytes : MarketTexts) (t : Telling) → ReadsMarket files names bytes → Tells (IsLimited names.rating names.places bytes) (TellsClear (most_of names.bits)) t
    → OfFiles files (λ f. AreClearFiles f names) (TellsClear (most_of names.bits)) t
files-clear None names bytes t read right = tt
files-clear (Some f) names bytes t read right =
    let w = whole-market f names bytes read in
    record {
      told = right.told;
      stands = record { texts = w.found; have = w.first; market = limited-same names.rating names.places bytes w.found right.told w.second right.stands };
      comes = right.comes;
    }

pub files-replay : (files : Option Files) (names : MarketNames) (edits : List ℕ) (bytes : MarketTexts) (edits_read : List ℕ) (t : Telling) → ReadsMarket files names bytes
    → Reads files edits 33554432 edits_read → Tells (IsReplayed names.rating names.places bytes edits_read) (TellsReplay (most_of names.bits)) t → OfFiles files (λ f. AreReplayFiles f names edits) (TellsReplay (most_of names.bits)) t
files-replay None names edits bytes edits_read t read read_edits right = tt
files-replay (Some f) names edits bytes edits_read t read read_edits right =
    let w = whole-market f names bytes read in
    let e = whole-table f (in_file edits) edits_read read_edits in
    record {
      told = right.told;
      stands = record {
        texts = w.found;
        edits = e.0;
        have = w.first;
        edits_are = e.1;
        steps = replayed-same names.rating names.places bytes w.found edits_read e.0 right.told w.second (e.2 (refusal.TooLong input.Edits)) right.stands;
      };
      comes = right.comes;
    }

pub files-verify : (files : Option Files) (names : MarketNames) (edits : Option (List ℕ)) (certificate : List ℕ) (bytes : MarketTexts) (edits_read certificate_read : List ℕ) (t : Telling)
    → ReadsMarket files names bytes → ReadsTable files (source_of edit_header edits) edits_read → Reads files certificate 33554432 certificate_read
    → Tells (IsCertified (most_of names.bits) names.rating names.places bytes edits_read certificate_read) (TellsVerdict (most_of names.bits)) t → OfFiles files (λ f. AreVerifyFiles f names edits certificate) (TellsVerdict (most_of names.bits)) t
files-verify None names edits certificate bytes edits_read certificate_read t read read_edits read_certificate right = tt
files-verify (Some f) names edits certificate bytes edits_read certificate_read t read read_edits read_certificate right =
    let w = whole-market f names bytes read in
    let e = whole-table f (source_of edit_header edits) edits_read read_edits in
    let c = whole-table f (in_file certificate) certificate_read read_certificate in
    record {
      told = right.told;
      stands = record {
        texts = w.found;
        edits = e.0;
        certificate = c.0;
        have = w.first;
        edits_are = e.1;
        certificate_is = c.1;
        certified = certified-same (most_of names.bits) names.rating names.places bytes w.found edits_read e.0 certificate_read c.0 right.told w.second (e.2 (refusal.TooLong input.Edits))
            (c.2 (refusal.TooLong input.Certificate)) right.stands;
      };
      comes = right.comes;
    }

pub entitled-same : (rating : PostRating) (places : FactorPlaces) (a b : MarketTexts) (rights rights' : List ℕ) (told : Result MarketRights Refusal) → EachOf AreAlike a b
    → sized (refusal.TooLong input.Rights) rights ≡ sized (refusal.TooLong input.Rights) rights' → AreEntitled rating places a rights told → AreEntitled rating places b rights' told
entitled-same rating places a b rights rights' told same same_rights h = record {
  made = h.made;
  is = limited-same rating places a b h.made same h.is;
  rest = rw same_rights at h.rest;
}

pub files-rights : (files : Option Files) (names : MarketNames) (rights : List ℕ) (bytes : MarketTexts) (rights_read : List ℕ) (t : Telling) → ReadsMarket files names bytes
    → Reads files rights 33554432 rights_read → Tells (AreEntitled names.rating names.places bytes rights_read) (TellsRights (most_of names.bits)) t → OfFiles files (λ f. AreRightsFiles f names rights) (TellsRights (most_of names.bits)) t
files-rights None names rights bytes rights_read t read read_rights right = tt
files-rights (Some f) names rights bytes rights_read t read read_rights right =
    let w = whole-market f names bytes read in
    let e = whole-table f (in_file rights) rights_read read_rights in
    record {
      told = right.told;
      stands = record {
        texts = w.found;
        rights = e.0;
        have = w.first;
        rights_are = e.1;
        entitled = entitled-same names.rating names.places bytes w.found rights_read e.0 right.told w.second (e.2 (refusal.TooLong input.Rights)) right.stands;
      };
      comes = right.comes;
    }

pub file-migrate : (files : Option Files) (certificate certificate_read : List ℕ) (bits : NumberBits) (t : Telling) → Reads files certificate 33554432 certificate_read → Tells (IsCertificate (most_of bits) certificate_read) TellsMigration t
    → OfFiles files (λ f. IsMigratedFile f certificate bits) TellsMigration t
file-migrate None certificate certificate_read bits t read right = tt
file-migrate (Some f) certificate certificate_read bits t read right =
    let c = whole-table f (in_file certificate) certificate_read read in
    record {
      told = right.told;
      stands = record { certificate = c.0; certificate_is = c.1; read = ap (certificate_in (most_of bits)) (sym (c.2 (refusal.TooLong input.Certificate))) ∙ right.stands };
      comes = right.comes;
    }

pub files-check : (files : Option Files) (names : CheckNames) (bytes : GridTexts) (t : Telling) → ReadsGrid files names.tables bytes → Tells (IsCheck names.places bytes) TellsCheck t
    → OfFiles files (λ f. AreCheckFiles f names) TellsCheck t
files-check None names bytes t read right = tt
files-check (Some f) names bytes t read right =
    let w = found-grid (ReadsTable (Some f)) (IsTableFile f) AreAlike (whole-table f) (grid_sources names.tables) bytes read in
    record {
      told = right.told;
      stands = record { texts = w.found; have = w.first; inputs = subst (λ grid. AreInputs names.places grid right.told) (alike-grid bytes w.found w.second) right.stands };
      comes = right.comes;
    }

pub factor-work-same : (case case' outages outages' : List ℕ) (told : Result FactorInputs Refusal)
    → sized (refusal.TooLong input.Case) case ≡ sized (refusal.TooLong input.Case) case'
    → sized (refusal.TooLong input.Contingencies) outages ≡ sized (refusal.TooLong input.Contingencies) outages'
    → IsFactorWork case outages told → IsFactorWork case' outages' told
factor-work-same case case' outages outages' told same_case same_outages h = record { made = h.made; is = ap matrices_in (sym same_case) ∙ h.is; rest = rw same_outages at h.rest }

pub files-factors : (files : Option Files) (names : FactorNames) (case_read outages_read : List ℕ) (t : Telling) → Reads files names.case 33554432 case_read
    → ReadsTable files (source_of outage_header names.contingencies) outages_read → Tells (IsFactorWork case_read outages_read) (TellsFactorsOf names) t
    → OfFiles files (λ f. AreFactorFiles f names) (TellsFactorsOf names) t
files-factors None names case_read outages_read t read read_outages right = tt
files-factors (Some f) names case_read outages_read t read read_outages right =
    let c = whole-table f (in_file names.case) case_read read in
    let o = whole-table f (source_of outage_header names.contingencies) outages_read read_outages in
    record {
      told = right.told;
      stands = record {
        case = c.0;
        outages = o.0;
        case_is = c.1;
        outages_are = o.1;
        work = factor-work-same case_read c.0 outages_read o.0 right.told (c.2 (refusal.TooLong input.Case)) (o.2 (refusal.TooLong input.Contingencies)) right.stands;
      };
      comes = right.comes;
    }
