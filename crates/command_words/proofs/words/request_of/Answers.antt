use Rattle.std.proofs.Common.{◌≡◌, ◌∙◌, rules, ap, true}
use Rattle.clap.specs.Words.{App, app_of, found_of, rows_of}
use Rattle.clap.specs.declared.builder.command.Command.TheViews.{out-Command}
use Rattle.clap.proofs.CallerLemmas.{subcommand_required}
use Rattle.command_words.specs.Words.{Spells, bits_words, place_words, rating_words, size_words}
use Rattle.command_words.proofs.EnteredLemmas.{check-given, clear-given, factors-given, migrate-given, pool-given, replay-given, rights-given, verify-given}
use Rattle.command_words.proofs.RingLemmas.{asks-ring}
use Rattle.command_words.proofs.WordsLemmas.{entered-make, enters-named, enters_by, is_free, is_needed, is_plain, refused_by}
use Rattle.command_words.proofs.words.request_of.Goals as goal

pub unwrap-requires : goal.unwrap-requires
unwrap-requires c =
    let m = c.in-Ok-try_get_matches_from.matches in
    let needs : (out-Command c.in-Ok.command).subcommand_required ≡ true = ap (λ (a : App). a.top.subcommand_required) (c.in-Ok.ensures).app ∙ is_needed _ _ _ _ in
    c.subcommand.ensures.variant ∙ subcommand_required c.in-Ok.command m (c.in-Ok-try_get_matches_from.ensures).parsed (c.in-Ok.ensures).local needs

pub returns-in-pool-clause-asked : goal.returns-in-pool-clause-asked
returns-in-pool-clause-asked c =
    let sizes : Spells c.as_slice.result size_words = search rules in
    let ratings : Spells c.as_slice-2.result rating_words = search rules in
    let places : Spells c.as_slice-3.result place_words = search rules in
    let bits : Spells c.as_slice-4.result bits_words = search rules in
    let same = (c.in-Ok.ensures).app in
    let enters = enters_by c.try_get_matches_from.result c.in-Ok-try_get_matches_from.matches c.in-Ok-try_get_matches_from.matches (app_of c.in-Ok.command) c.as_slice.result c.as_slice-2.result c.as_slice-3.result c.as_slice-4.result _
    c.unwrap.result.0.now (rows_of (found_of c.unwrap.result.1.now)) c.in-Ok-try_get_matches_from.is same sizes ratings places bits
    (c.try_get_matches_from.ensures.kinds (is_free _ _ _ _ _ same)) ((c.in-Ok-try_get_matches_from.ensures).matches (is_plain _ _ _ _ _ same)).1
    (rw c.unwrap.ensures at c.subcommand.ensures.name) (rw c.unwrap.ensures at c.subcommand.ensures.rows) in
    record {
      rows = rows_of (found_of c.unwrap.result.1.now);
      enters = enters-named _ _ _ _ c.in-pool.is enters;
      given = pool-given _ _ (enters-named _ _ _ _ c.in-pool.is enters);
      case_is = c.pool_files.ensures.case;
      offers_is = c.pool_files.ensures.offers;
    }

pub returns-in-clear-clause-asked : goal.returns-in-clear-clause-asked
returns-in-clear-clause-asked c =
    let sizes : Spells c.as_slice.result size_words = search rules in
    let ratings : Spells c.as_slice-2.result rating_words = search rules in
    let places : Spells c.as_slice-3.result place_words = search rules in
    let bits : Spells c.as_slice-4.result bits_words = search rules in
    let same = (c.in-Ok.ensures).app in
    let enters = enters_by c.try_get_matches_from.result c.in-Ok-try_get_matches_from.matches c.in-Ok-try_get_matches_from.matches (app_of c.in-Ok.command) c.as_slice.result c.as_slice-2.result c.as_slice-3.result c.as_slice-4.result _
    c.unwrap.result.0.now (rows_of (found_of c.unwrap.result.1.now)) c.in-Ok-try_get_matches_from.is same sizes ratings places bits
    (c.try_get_matches_from.ensures.kinds (is_free _ _ _ _ _ same)) ((c.in-Ok-try_get_matches_from.ensures).matches (is_plain _ _ _ _ _ same)).1
    (rw c.unwrap.ensures at c.subcommand.ensures.name) (rw c.unwrap.ensures at c.subcommand.ensures.rows) in
    record {
      rows = rows_of (found_of c.unwrap.result.1.now);
      enters = enters-named _ _ _ _ c.in-clear.is enters;
      given = clear-given _ _ (enters-named _ _ _ _ c.in-clear.is enters);
      names_are = c.clear_files.ensures.market;
      certificate_is = c.clear_files.ensures.certificate;
    }

pub returns-in-replay-clause-asked : goal.returns-in-replay-clause-asked
returns-in-replay-clause-asked c =
    let sizes : Spells c.as_slice.result size_words = search rules in
    let ratings : Spells c.as_slice-2.result rating_words = search rules in
    let places : Spells c.as_slice-3.result place_words = search rules in
    let bits : Spells c.as_slice-4.result bits_words = search rules in
    let same = (c.in-Ok.ensures).app in
    let enters = enters_by c.try_get_matches_from.result c.in-Ok-try_get_matches_from.matches c.in-Ok-try_get_matches_from.matches (app_of c.in-Ok.command) c.as_slice.result c.as_slice-2.result c.as_slice-3.result c.as_slice-4.result _
    c.unwrap.result.0.now (rows_of (found_of c.unwrap.result.1.now)) c.in-Ok-try_get_matches_from.is same sizes ratings places bits
    (c.try_get_matches_from.ensures.kinds (is_free _ _ _ _ _ same)) ((c.in-Ok-try_get_matches_from.ensures).matches (is_plain _ _ _ _ _ same)).1
    (rw c.unwrap.ensures at c.subcommand.ensures.name) (rw c.unwrap.ensures at c.subcommand.ensures.rows) in
    record {
      rows = rows_of (found_of c.unwrap.result.1.now);
      enters = enters-named _ _ _ _ c.in-replay.is enters;
      given = replay-given _ _ (enters-named _ _ _ _ c.in-replay.is enters);
      names_are = c.replay_files.ensures.market;
      edits_is = c.replay_files.ensures.edits;
      certificate_is = c.replay_files.ensures.certificate;
    }

pub returns-in-verify-clause-asked : goal.returns-in-verify-clause-asked
returns-in-verify-clause-asked c =
    let sizes : Spells c.as_slice.result size_words = search rules in
    let ratings : Spells c.as_slice-2.result rating_words = search rules in
    let places : Spells c.as_slice-3.result place_words = search rules in
    let bits : Spells c.as_slice-4.result bits_words = search rules in
    let same = (c.in-Ok.ensures).app in
    let enters = enters_by c.try_get_matches_from.result c.in-Ok-try_get_matches_from.matches c.in-Ok-try_get_matches_from.matches (app_of c.in-Ok.command) c.as_slice.result c.as_slice-2.result c.as_slice-3.result c.as_slice-4.result _
    c.unwrap.result.0.now (rows_of (found_of c.unwrap.result.1.now)) c.in-Ok-try_get_matches_from.is same sizes ratings places bits
    (c.try_get_matches_from.ensures.kinds (is_free _ _ _ _ _ same)) ((c.in-Ok-try_get_matches_from.ensures).matches (is_plain _ _ _ _ _ same)).1
    (rw c.unwrap.ensures at c.subcommand.ensures.name) (rw c.unwrap.ensures at c.subcommand.ensures.rows) in
    record {
      rows = rows_of (found_of c.unwrap.result.1.now);
      enters = enters-named _ _ _ _ c.in-verify.is enters;
      given = verify-given _ _ (enters-named _ _ _ _ c.in-verify.is enters);
      names_are = c.verify_files.ensures.market;
      edits_is = c.verify_files.ensures.edits;
      certificate_is = c.verify_files.ensures.certificate;
    }

pub returns-in-rights-clause-asked : goal.returns-in-rights-clause-asked
returns-in-rights-clause-asked c =
    let sizes : Spells c.as_slice.result size_words = search rules in
    let ratings : Spells c.as_slice-2.result rating_words = search rules in
    let places : Spells c.as_slice-3.result place_words = search rules in
    let bits : Spells c.as_slice-4.result bits_words = search rules in
    let same = (c.in-Ok.ensures).app in
    let enters = enters_by c.try_get_matches_from.result c.in-Ok-try_get_matches_from.matches c.in-Ok-try_get_matches_from.matches (app_of c.in-Ok.command) c.as_slice.result c.as_slice-2.result c.as_slice-3.result c.as_slice-4.result _
    c.unwrap.result.0.now (rows_of (found_of c.unwrap.result.1.now)) c.in-Ok-try_get_matches_from.is same sizes ratings places bits
    (c.try_get_matches_from.ensures.kinds (is_free _ _ _ _ _ same)) ((c.in-Ok-try_get_matches_from.ensures).matches (is_plain _ _ _ _ _ same)).1
    (rw c.unwrap.ensures at c.subcommand.ensures.name) (rw c.unwrap.ensures at c.subcommand.ensures.rows) in
    record {
      rows = rows_of (found_of c.unwrap.result.1.now);
      enters = enters-named _ _ _ _ c.in-rights.is enters;
      given = rights-given _ _ (enters-named _ _ _ _ c.in-rights.is enters);
      names_are = c.rights_files.ensures.market;
      rights_is = c.rights_files.ensures.rights;
    }

pub returns-in-migrate-clause-asked : goal.returns-in-migrate-clause-asked
returns-in-migrate-clause-asked c =
    let sizes : Spells c.as_slice.result size_words = search rules in
    let ratings : Spells c.as_slice-2.result rating_words = search rules in
    let places : Spells c.as_slice-3.result place_words = search rules in
    let bits : Spells c.as_slice-4.result bits_words = search rules in
    let same = (c.in-Ok.ensures).app in
    let enters = enters_by c.try_get_matches_from.result c.in-Ok-try_get_matches_from.matches c.in-Ok-try_get_matches_from.matches (app_of c.in-Ok.command) c.as_slice.result c.as_slice-2.result c.as_slice-3.result c.as_slice-4.result _
    c.unwrap.result.0.now (rows_of (found_of c.unwrap.result.1.now)) c.in-Ok-try_get_matches_from.is same sizes ratings places bits
    (c.try_get_matches_from.ensures.kinds (is_free _ _ _ _ _ same)) ((c.in-Ok-try_get_matches_from.ensures).matches (is_plain _ _ _ _ _ same)).1
    (rw c.unwrap.ensures at c.subcommand.ensures.name) (rw c.unwrap.ensures at c.subcommand.ensures.rows) in
    record {
      rows = rows_of (found_of c.unwrap.result.1.now);
      enters = enters-named _ _ _ _ c.in-migrate.is enters;
      given = migrate-given _ _ (enters-named _ _ _ _ c.in-migrate.is enters);
      certificate_is = c.migrate_files.ensures.certificate;
      out_is = c.migrate_files.ensures.out;
      bits_is = c.migrate_files.ensures.bits;
    }

pub returns-in-check-clause-asked : goal.returns-in-check-clause-asked
returns-in-check-clause-asked c =
    let sizes : Spells c.as_slice.result size_words = search rules in
    let ratings : Spells c.as_slice-2.result rating_words = search rules in
    let places : Spells c.as_slice-3.result place_words = search rules in
    let bits : Spells c.as_slice-4.result bits_words = search rules in
    let same = (c.in-Ok.ensures).app in
    let enters = enters_by c.try_get_matches_from.result c.in-Ok-try_get_matches_from.matches c.in-Ok-try_get_matches_from.matches (app_of c.in-Ok.command) c.as_slice.result c.as_slice-2.result c.as_slice-3.result c.as_slice-4.result _
    c.unwrap.result.0.now (rows_of (found_of c.unwrap.result.1.now)) c.in-Ok-try_get_matches_from.is same sizes ratings places bits
    (c.try_get_matches_from.ensures.kinds (is_free _ _ _ _ _ same)) ((c.in-Ok-try_get_matches_from.ensures).matches (is_plain _ _ _ _ _ same)).1
    (rw c.unwrap.ensures at c.subcommand.ensures.name) (rw c.unwrap.ensures at c.subcommand.ensures.rows) in
    record {
      rows = rows_of (found_of c.unwrap.result.1.now);
      enters = enters-named _ _ _ _ c.in-check.is enters;
      given = check-given _ _ (enters-named _ _ _ _ c.in-check.is enters);
      names_are = c.check_files.ensures;
    }

pub returns-in-factors-clause-asked : goal.returns-in-factors-clause-asked
returns-in-factors-clause-asked c =
    let sizes : Spells c.as_slice.result size_words = search rules in
    let ratings : Spells c.as_slice-2.result rating_words = search rules in
    let places : Spells c.as_slice-3.result place_words = search rules in
    let bits : Spells c.as_slice-4.result bits_words = search rules in
    let same = (c.in-Ok.ensures).app in
    let enters = enters_by c.try_get_matches_from.result c.in-Ok-try_get_matches_from.matches c.in-Ok-try_get_matches_from.matches (app_of c.in-Ok.command) c.as_slice.result c.as_slice-2.result c.as_slice-3.result c.as_slice-4.result _
    c.unwrap.result.0.now (rows_of (found_of c.unwrap.result.1.now)) c.in-Ok-try_get_matches_from.is same sizes ratings places bits
    (c.try_get_matches_from.ensures.kinds (is_free _ _ _ _ _ same)) ((c.in-Ok-try_get_matches_from.ensures).matches (is_plain _ _ _ _ _ same)).1
    (rw c.unwrap.ensures at c.subcommand.ensures.name) (rw c.unwrap.ensures at c.subcommand.ensures.rows) in
    record {
      rows = rows_of (found_of c.unwrap.result.1.now);
      enters = enters-named _ _ _ _ c.in-factors.is enters;
      given = factors-given _ _ (enters-named _ _ _ _ c.in-factors.is enters);
      names_are = c.factor_files.ensures;
    }

pub returns-in-Ok-try_get_matches_from-clause-asked : goal.returns-in-Ok-try_get_matches_from-clause-asked
returns-in-Ok-try_get_matches_from-clause-asked c =
    let sizes : Spells c.as_slice.result size_words = search rules in
    let ratings : Spells c.as_slice-2.result rating_words = search rules in
    let places : Spells c.as_slice-3.result place_words = search rules in
    let bits : Spells c.as_slice-4.result bits_words = search rules in
    let same = (c.in-Ok.ensures).app in
    let enters = enters_by c.try_get_matches_from.result c.in-Ok-try_get_matches_from.matches c.in-Ok-try_get_matches_from.matches (app_of c.in-Ok.command) c.as_slice.result c.as_slice-2.result c.as_slice-3.result c.as_slice-4.result _
    c.unwrap.result.0.now (rows_of (found_of c.unwrap.result.1.now)) c.in-Ok-try_get_matches_from.is same sizes ratings places bits
    (c.try_get_matches_from.ensures.kinds (is_free _ _ _ _ _ same)) ((c.in-Ok-try_get_matches_from.ensures).matches (is_plain _ _ _ _ _ same)).1
    (rw c.unwrap.ensures at c.subcommand.ensures.name) (rw c.unwrap.ensures at c.subcommand.ensures.rows) in
    let name = entered-make _ _ _ enters (record {
      pool = c.in_default.not-pool;
      clear = c.in_default.not-clear;
      replay = c.in_default.not-replay;
      verify = c.in_default.not-verify;
      rights = c.in_default.not-rights;
      check = c.in_default.not-check;
      factors = c.in_default.not-factors;
      migrate = c.in_default.not-migrate;
    }) in
    asks-ring _ _ c.ring_words.result.buses c.ring_words.result.seed (enters-named _ _ _ _ name enters) c.ring_words.ensures.buses c.ring_words.ensures.seed c.ring_words.ensures.ring

pub returns-clause-refused : goal.returns-clause-refused
returns-clause-refused c =
    let sizes : Spells c.as_slice.result size_words = search rules in
    let ratings : Spells c.as_slice-2.result rating_words = search rules in
    let places : Spells c.as_slice-3.result place_words = search rules in
    let bits : Spells c.as_slice-4.result bits_words = search rules in
    let same = (c.in-Ok.ensures).app in
    λ told. refused_by c.try_get_matches_from.result c.in-Err-try_get_matches_from.error (app_of c.in-Ok.command) c.as_slice.result c.as_slice-2.result c.as_slice-3.result c.as_slice-4.result _ c.in-Err-try_get_matches_from.is
    (λ memory. told (c.stop_of.ensures.memory (c.kind.ensures ∙ memory))) same sizes ratings places bits (c.try_get_matches_from.ensures.kinds (is_free _ _ _ _ _ same))
