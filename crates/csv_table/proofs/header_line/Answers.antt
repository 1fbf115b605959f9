use Rattle.std.proofs.Common.{◌∙◌, ap, codes, ◌++◌}
use Rattle.csv_table.proofs.HeaderLemmas.{join-cells}
use Rattle.csv_table.proofs.header_line.Goals as goal

pub returns : goal.returns
returns c = ap (λ v. v.items) c.into_bytes.ensures.value ∙ c.in_ok-push_str.ensures.bytes ∙ ap (λ t. t ++ codes "\n") (c.in_ok-line.ensures.ok ∙ join-cells (codes ",") c.args.header.now)
