use Rattle.std.proofs.Common.{rules, tests}
use Rattle.std.specs.Prelude.{◌==◌}
use Rattle.std.proofs.lemmas.Iterator.Search.{all_from_yields_List}
use Rattle.std.proofs.lemmas.Iterator.Splits.{YieldsList-from_slice_split}
use Rattle.case_text.specs.Names.{is_names_text, is_name_text}
use Rattle.case_text.proofs.names.are_names.Goals as goal

pub returns : goal.returns
unfolding is_names_text
returns c =
    all_from_yields_List is_name_text _ _ _ c.all.ensures.ran
    (YieldsList-from_slice_split _ (λ b. b == 46) c.args.bytes.now c.split.ensures.rest c.split.ensures.done c.split.ensures.closure (λ x r q k. Prim.search (rules, tests)))
    (λ x b q k. Prim.search (rules, tests))
