use Rattle.std.proofs.Common.{◌≡◌, ◌∙◌, ◌+◌, sym, ap, refl, Some, None, Ok, get_or, map}
use Rattle.std.specs.Prelude.{option_map, option_and_then}
use Rattle.std.proofs.lemmas.Bool.{not-false, not-true}
use Rattle.serde_json.specs.View.{view}
use Rattle.market_model.specs.Valued.{dual_at}
use Rattle.cert_format.specs.declared.certificate.Key.TheVariants as key
use Rattle.cert_format.specs.Grammar.{if_distinct, limit_in, need}
use Rattle.cert_format.proofs.EachLemmas.{rest-end, rest-none, rest-start, rest-step, left_of}
use Rattle.cert_format.proofs.RowLemmas.{once-push, repeated, rows-push, seen-push, test_is}
use Rattle.cert_format.proofs.reading.read_limits.Goals as goal

pub loop-value-init : goal.loop-value-init
loop-value-init g c = record {
  read = rw c.requires.limits (rest-start (limit_in g.N.Exact.bound c.args.version) c.args.values.now);
  rows = rw c.requires.limits c.requires.rows;
  once = rw c.requires.limits refl;
}

pub returns-in_default : goal.returns-in_default
returns-in_default g c =
    let here : limit_in g.N.Exact.bound c.args.version (view (get_or c.args.values.now c.loop-value.value-index c.value-item.result)) ≡ None =
    ap (λ v. limit_in g.N.Exact.bound c.args.version (view v)) (sym c.value-item.is) ∙ sym c.limit_in.ensures ∙ ap (option_map (dual_at g.N.Exact.value)) c.in_default.is in
    let none = c.loop-value.invariant.read
    ∙ rest-none (limit_in g.N.Exact.bound c.args.version) (map (dual_at g.N.Exact.value) c.loop-value.limits) c.args.values.now c.loop-value.value-index c.value-item.result c.loop-value-test.true here in
    ap (λ o. need key.Limits (option_and_then if_distinct o) (λ xs. Ok xs)) none

pub returns-then-not-is_new : goal.returns-then-not-is_new
returns-then-not-is_new g c =
    let here : limit_in g.N.Exact.bound c.args.version (view (get_or c.args.values.now c.loop-value.value-index c.value-item.result)) ≡ Some (dual_at g.N.Exact.value c.in-Some.limit) =
    ap (λ v. limit_in g.N.Exact.bound c.args.version (view v)) (sym c.value-item.is) ∙ sym c.limit_in.ensures ∙ ap (option_map (dual_at g.N.Exact.value)) c.in-Some.is in
    let read = c.loop-value.invariant.read
    ∙ rest-step (limit_in g.N.Exact.bound c.args.version) (map (dual_at g.N.Exact.value) c.loop-value.limits) c.args.values.now c.loop-value.value-index c.value-item.result (dual_at g.N.Exact.value c.in-Some.limit) c.loop-value-test.true here in
    let there = sym (test_is g.N.Exact.value c.loop-value.limits c.in-Some.limit c.loop-value.rows.keys c.loop-value.invariant.rows) ∙ not-false _ (sym c.in_ok-is_new.ensures.is_new ∙ c.if-not-is_new.true) in
    ap (λ o. need key.Limits (option_and_then if_distinct o) (λ xs. Ok xs)) read
    ∙ ap (λ o. need key.Limits o (λ xs. Ok xs)) (repeated (map (dual_at g.N.Exact.value) c.loop-value.limits) (dual_at g.N.Exact.value c.in-Some.limit) (left_of (limit_in g.N.Exact.bound c.args.version) c.args.values.now (c.loop-value.value-index + 1)) there)

pub loop-value-preserved : goal.loop-value-preserved
loop-value-preserved g c =
    let here : limit_in g.N.Exact.bound c.args.version (view (get_or c.args.values.now c.loop-value.value-index c.value-item.result)) ≡ Some (dual_at g.N.Exact.value c.in-Some.limit) =
    ap (λ v. limit_in g.N.Exact.bound c.args.version (view v)) (sym c.value-item.is) ∙ sym c.limit_in.ensures ∙ ap (option_map (dual_at g.N.Exact.value)) c.in-Some.is in
    let read = c.loop-value.invariant.read
    ∙ rest-step (limit_in g.N.Exact.bound c.args.version) (map (dual_at g.N.Exact.value) c.loop-value.limits) c.args.values.now c.loop-value.value-index c.value-item.result (dual_at g.N.Exact.value c.in-Some.limit) c.loop-value-test.true here in
    let fresh = not-true _ (sym c.in_ok-is_new.ensures.is_new ∙ c.if-not-is_new.false) in
    let pushed = c.in_ok-push.ensures in
    let seen = seen-push g.N.Exact.value c.loop-value.limits c.in-Some.limit c.loop-value.rows.keys c.loop-value.invariant.rows fresh c.push.new.self pushed in
    record {
      read = rw seen read;
      rows = rows-push g.N.Exact.value c.loop-value.limits c.in-Some.limit c.loop-value.rows.keys c.loop-value.invariant.rows fresh c.push.new.self pushed c.add_row.new.rows.keys (rw c.if-not-is_new.false at c.in_ok-is_new.ensures.keys);
      once = once-push g.N.Exact.value c.loop-value.limits c.in-Some.limit c.loop-value.rows.keys c.loop-value.invariant.rows fresh c.push.new.self pushed c.loop-value.invariant.once;
    }

pub returns : goal.returns
returns g c =
    let all = c.loop-value.invariant.read
    ∙ rest-end (limit_in g.N.Exact.bound c.args.version) (map (dual_at g.N.Exact.value) c.loop-value.limits) c.args.values.now c.loop-value.value-index c.loop-value-test.false in
    ap (λ o. need key.Limits (option_and_then if_distinct o) (λ xs. Ok xs)) all ∙ rw c.loop-value.invariant.once refl
