use Rattle.std.proofs.Common.{◌≡◌}
use Rattle.linear_dict.specs.Dictionaries.{Dictionary, IsDictionary}
use Rattle.simplex_core.specs.Fixed.{IsFixedPair, IsFixedPairPosed}
use Rattle.simplex_core.specs.Posings.{IsPriced, IsPut, column_note, kept_column, reduced_note}
use Rattle.simplex_core.specs.Turns.{noted_anew}
use Rattle.simplex_core.proofs.KeepLemmas.{kept_priced}
use Rattle.simplex_core.proofs.Pairs.{if_err_as, if_ok_as}
use Rattle.simplex_core.proofs.PoseLemmas.{posed_pair, put_both, put_is_sound, put_reduced, put_sound, put_unpriced}
use Rattle.simplex_core.proofs.posing.put_prices.Goals as goal

pub keep_rows-requires-clause-sound : goal.keep_rows-requires-clause-sound
keep_rows-requires-clause-sound g c =
    put_sound c.args.dict.now c.args.dict.now.columns (kept_column g.N.Exact.value c.args.dict.now c.args.prices.now c.args.bounds.now) c.keep_columns.new.dict c.requires.sound c.keep_columns.ensures

pub returns-then-keeps_prices-clause-priced : goal.returns-then-keeps_prices-clause-priced
returns-then-keeps_prices-clause-priced g c =
    kept_priced g.N.Exact.value c.args.dict.now c.requires.sound (c.has_reduced_prices.ensures c.if-has_reduced_prices.true) c.args.prices.now (c.keeps_prices.ensures c.if-keeps_prices.true)
    c.args.bounds.now c.requires.prices c.keep_columns.new.dict c.keep_rows.new.dict c.keep_columns.ensures c.keep_rows.ensures

pub put_rows-requires-clause-sound : goal.put_rows-requires-clause-sound
put_rows-requires-clause-sound g c =
    put_sound c.args.dict.now c.args.dict.now.columns (column_note g.N.Exact.value c.args.prices.now c.args.bounds.now) c.put_columns.new.dict c.requires.sound c.put_columns.ensures

pub put_reduced-requires-clause-sound : goal.put_reduced-requires-clause-sound
put_reduced-requires-clause-sound g c =
    let d : Dictionary = c.args.dict.now in
    let put : IsPut g.N.Exact.value d c.args.prices.now c.args.bounds.now c.put_rows.new.dict =
    put_both g.N.Exact.value d c.requires.sound c.args.prices.now c.args.bounds.now c.requires.prices c.put_columns.new.dict c.put_rows.new.dict c.put_columns.ensures c.put_rows.ensures in
    put_is_sound g.N.Exact.value d c.requires.sound c.args.prices.now c.args.bounds.now c.put_rows.new.dict put

pub put_reduced-requires-clause-unpriced : goal.put_reduced-requires-clause-unpriced
put_reduced-requires-clause-unpriced g c =
    let d : Dictionary = c.args.dict.now in
    let put : IsPut g.N.Exact.value d c.args.prices.now c.args.bounds.now c.put_rows.new.dict =
    put_both g.N.Exact.value d c.requires.sound c.args.prices.now c.args.bounds.now c.requires.prices c.put_columns.new.dict c.put_rows.new.dict c.put_columns.ensures c.put_rows.ensures in
    put_unpriced g.N.Exact.value d c.requires.sound c.args.prices.now c.args.bounds.now c.put_rows.new.dict put

pub put_reduced-requires-clause-blank : goal.put_reduced-requires-clause-blank
put_reduced-requires-clause-blank g c =
    let d : Dictionary = c.args.dict.now in
    let put : IsPut g.N.Exact.value d c.args.prices.now c.args.bounds.now c.put_rows.new.dict =
    put_both g.N.Exact.value d c.requires.sound c.args.prices.now c.args.bounds.now c.requires.prices c.put_columns.new.dict c.put_rows.new.dict c.put_columns.ensures c.put_rows.ensures in
    let sound : IsDictionary c.put_rows.new.dict = put_is_sound g.N.Exact.value d c.requires.sound c.args.prices.now c.args.bounds.now c.put_rows.new.dict put in
    λ w o. put_reduced g.N.Exact.value d c.requires.sound c.args.prices.now c.args.bounds.now c.put_rows.new.dict put w (sound.split.second_named w o)

pub returns-clause-priced : goal.returns-clause-priced
returns-clause-priced g c =
    let d : Dictionary = c.args.dict.now in
    let put : IsPut g.N.Exact.value d c.args.prices.now c.args.bounds.now c.put_rows.new.dict =
    put_both g.N.Exact.value d c.requires.sound c.args.prices.now c.args.bounds.now c.requires.prices c.put_columns.new.dict c.put_rows.new.dict c.put_columns.ensures c.put_rows.ensures in
    if_ok_as (λ _. c.put_reduced.new.dict ≡ noted_anew c.put_rows.new.dict (reduced_note c.put_rows.new.dict)) (λ _. IsPriced g.N.Exact.value d c.args.prices.now c.args.bounds.now c.put_reduced.new.dict)
    c.put_reduced.result (λ _ e. (c.put_rows.new.dict, put, e)) c.put_reduced.ensures.notes

pub returns-clause-pair : goal.returns-clause-pair
returns-clause-pair g c =
    let d : Dictionary = c.args.dict.now in
    let put : IsPut g.N.Exact.value d c.args.prices.now c.args.bounds.now c.put_rows.new.dict =
    put_both g.N.Exact.value d c.requires.sound c.args.prices.now c.args.bounds.now c.requires.prices c.put_columns.new.dict c.put_rows.new.dict c.put_columns.ensures c.put_rows.ensures in
    if_err_as (IsFixedPair g.N.Exact.value g.N.Exact.bound c.put_rows.new.dict) (IsFixedPairPosed g.N.Exact.value g.N.Exact.bound d c.args.prices.now c.args.bounds.now)
    c.put_reduced.result
    (λ e pair. posed_pair g.N.Exact.value d c.requires.sound c.args.prices.now c.args.bounds.now c.put_rows.new.dict put c.requires.bounds c.requires.ordered c.requires.live g.N.Exact.bound e pair)
    c.put_reduced.ensures.pair
