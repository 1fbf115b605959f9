-- Tables that are made obey the rules, so they are read back.
use Rattle.std.proofs.Common.{◌≡◌, ◌*◌, ◌<◌, ◌≤◌, ◌∙◌, pos, List, length, get_or, map, arith, refl, sym, ap, Ok, All}
use Rattle.std.specs.Prelude.{unsigned_abs}
use Rattle.std.proofs.lemmas.List.{get_or-map, length-map}
use Rattle.std.proofs.lemmas.List.Elements.{All-map}
use Rattle.market_data.specs.Scales.{most_factor, place_step}
use Rattle.market_data.specs.declared.scales.FactorPlaces.{FactorPlaces}
use Rattle.net_case.specs.Networks.{IsNetwork, LiveNetwork}
use Rattle.factor_tables.specs.declared.by_pair.Column.{Column}
use Rattle.factor_tables.specs.declared.made.MadeFactor.{MadeFactor}
use Rattle.factor_tables.specs.Factors.{Entry, HasNoPairTwice}
use Rattle.factor_tables.specs.Made.{AreApart, AreInBounds, made_entry, made_pair, made_table}
use Rattle.factor_tables.specs.Tables.{table_of}
use Rattle.factor_tables.proofs.MadeLemmas.{entry-size}
use Rattle.factor_text.specs.Laws.{IsTableOver, NamesWhatIsLive, ObeysRules}
use Rattle.factor_text.specs.Texts.{factor_table_text}
use Rattle.factor_text.proofs.RecordsRead.{read-back}

entry-obeys : (kind : Column) (network : LiveNetwork) (places : FactorPlaces) (made : MadeFactor) → NamesWhatIsLive kind network (made_pair made) → unsigned_abs made.units * place_step places ≤ most_factor
    → ObeysRules kind network places (made_entry places made)
entry-obeys kind network places made names bound = record {
  branch = names.branch;
  of = names.of;
  live = λ used. (names.live_branch, names.live_of);
  whole = (made.units, refl);
  size = entry-size places made bound;
}

entries-apart : (places : FactorPlaces) (records : List MadeFactor) → AreApart records → HasNoPairTwice (map (made_entry places) records)
entries-apart places records apart i j d lt within same =
    let inside : j < length records = omega (arith, within, length-map records (made_entry places)) in
    let early : i < length records = omega (arith, lt, inside) in
    let none : MadeFactor = record { branch = 0; of = 0; units = pos 0 } in
    let first = ap (λ (e : Entry). e.0) (get_or-map (made_entry places) records i none d early) in
    let second = ap (λ (e : Entry). e.0) (get_or-map (made_entry places) records j none d inside) in
    apart i j none lt inside (sym first ∙ (same ∙ second))

pub made-over : (kind : Column) (network : LiveNetwork) (places : FactorPlaces) (records : List MadeFactor) → AreApart records → AreInBounds places records → All (λ made. NamesWhatIsLive kind network (made_pair made)) records
    → IsTableOver kind network (made_table places records)
made-over kind network places records apart bounds names = record {
  records = All-map (ObeysRules kind network places) (made_entry places) records (λ k d lt. entry-obeys kind network places (get_or records k d) (names k d lt) (bounds k d lt));
  once = entries-apart places records apart;
}

pub made-back : (kind : Column) (network : LiveNetwork) (places : FactorPlaces) (records : List MadeFactor) → IsNetwork network → AreApart records → AreInBounds places records
    → All (λ made. NamesWhatIsLive kind network (made_pair made)) records
    → IsTableOver kind network (made_table places records) × (table_of kind network (factor_table_text kind (made_table places records).entries) places ≡ Ok (made_table places records))
made-back kind network places records is apart bounds names =
    let over = made-over kind network places records apart bounds names in
    (over, read-back kind network (made_table places records) is over)
