use Rattle.std.proofs.Common.{◌≡◌, ◌<◌, ◌∙◌, ◌++◌, ◌∷◌, [], None, ℕ, List, ap, sym, subst, length, arith}
use Rattle.std.specs.Map.{lookup}
use Rattle.market_model.specs.declared.answered.Dual.{Dual}
use Rattle.cert_format.specs.Certificates.{name_of, same_triple}
use Rattle.cert_verify.specs.Naming.{entry_of}
use Rattle.cert_verify.proofs.NamingLemmas.{absent, entries_more}
use Rattle.cert_verify.proofs.naming.by_name.Goals as goal

pub add-requires : goal.add-requires
add-requires g c =
    let inside : c.loop-dual.dual-index < length c.args.limits.now = omega (arith, c.loop-dual-test.true) in
    subst (λ (es : List ((ℕ × ℕ × ℕ) × Dual g.row.N.Denot)). lookup (same_triple (name_of c.dual-item.result.row)) es ≡ None) (sym c.loop-dual.invariant)
    (absent g.N.Exact.value c.args.limits.now c.loop-dual.dual-index c.dual-item.result c.requires inside c.dual-item.is)

pub loop-dual-preserved : goal.loop-dual-preserved
loop-dual-preserved g c =
    let inside : c.loop-dual.dual-index < length c.args.limits.now = omega (arith, c.loop-dual-test.true) in
    c.in_ok-add.ensures ∙ ap (λ (es : List ((ℕ × ℕ × ℕ) × Dual g.row.N.Denot)). es ++ entry_of c.dual-item.result ∷ []) c.loop-dual.invariant
    ∙ entries_more c.args.limits.now c.loop-dual.dual-index c.dual-item.result inside c.dual-item.is
