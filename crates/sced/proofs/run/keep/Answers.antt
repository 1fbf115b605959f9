use Rattle.std.proofs.Common.{[]}
use Rattle.std.specs.Prelude.{IsErr, option_map}
use Rattle.sced.specs.Runs.{KeepsWrites}
use Rattle.sced.specs.Told.{named_bytes, names_for}
use Rattle.sced.proofs.EndLemmas.{keeps-then, not-failed}
use Rattle.sced.proofs.run.keep.Goals as goal

pub returns-clause-kept : goal.returns-clause-kept
returns-clause-kept g c =
    let names = names_for c.args.work.now in
    let outputs = c.args.work.now.told.outputs in
    let files = g.S.Store.files in
    let failed = IsErr c.keep_output-3.result in
    let shift : KeepsWrites (IsErr c.keep_output.result) (named_bytes names.ptdf (option_map (λ bytes. bytes.items) outputs.ptdf) []) (files c.args.store.now) (files c.keep_output.new.store) =
    rw c.as_deref.ensures.value at c.keep_output.ensures.kept in
    let loss : KeepsWrites (IsErr c.keep_output-2.result) (named_bytes names.lodf (option_map (λ bytes. bytes.items) outputs.lodf) []) (files c.keep_output.new.store) (files c.keep_output-2.new.store) =
    rw c.as_deref-2.ensures.value at c.keep_output-2.ensures.kept in
    let certificate : KeepsWrites failed (named_bytes names.certificate (option_map (λ bytes. bytes.items) outputs.certificate) []) (files c.keep_output-2.new.store) (files c.keep_output-3.new.store) =
    rw c.as_deref-3.ensures.value at c.keep_output-3.ensures.kept in
    keeps-then _ failed _ _ _ _ _ _ (not-failed _ _ c.in_ok-keep_output.was) shift
    (keeps-then _ failed _ _ _ _ _ _ (not-failed _ _ c.in_ok-keep_output-2.was) loss certificate)
