use Rattle.std.proofs.Common.{◌≡◌, ◌∙◌, refl, ap, List, ℕ, [], Option, Some, None, option_map, Bor}
use Rattle.std.specs.Prelude.{unwrap_or}
use Rattle.command_words.proofs.words.named_file.Goals as goal

-- the text of a value, or of none
text_of : (o : Option (Bor (List ℕ))) (d : Bor (List ℕ)) → d.now ≡ [] → (unwrap_or o d).now ≡ unwrap_or (option_map (λ s. s.now) o) []
text_of None d e = e
text_of (Some s) d e = refl

pub returns : goal.returns
returns c = ap (λ (s : Bor (List ℕ)). s.now) c.unwrap_or.ensures ∙ text_of c.named_table.result _ refl ∙ ap (λ o. unwrap_or o []) c.named_table.ensures
