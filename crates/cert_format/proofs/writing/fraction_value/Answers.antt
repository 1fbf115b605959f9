use Rattle.std.proofs.Common.{sym, subst, IsUtf8}
use Rattle.cert_format.proofs.TextLemmas.{is_ok, utf8-parts_text}
use Rattle.cert_format.proofs.writing.fraction_value.Goals as goal

pub unwrap-text-requires : goal.unwrap-text-requires
unwrap-text-requires g c = is_ok c.from_utf8.result _ _ (subst IsUtf8 (sym c.write_parts-end.ensures.text) (utf8-parts_text (g.N.Exact.value c.args.number))) c.from_utf8.ensures.cases
