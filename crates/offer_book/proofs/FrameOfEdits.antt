-- An edit keeps the frame of a market.
use Rattle.std.specs.Prelude.{◌≡◌, ℕ, ◌&&◌, ℤ, pos, Bool, true, false, List, Option, Some, None, is_some, option_map, refl, if◌then◌else◌, [], ◌∷◌}
use Rattle.std.specs.Option.{option_map_or}
use Rattle.std.specs.Ordering.{int_eq}
use Rattle.std.proofs.Common.{ap, sym, ◌∙◌}
use Rattle.std.proofs.lemmas.List.Quantifiers.{position-Some}
use Rattle.market_data.specs.declared.participants.Bus.{Bus}
use Rattle.market_model.specs.declared.participants.Block.{Block}
use Rattle.market_model.specs.declared.participants.Line.{Line}
use Rattle.market_model.specs.declared.participants.Parts.{Parts}
use Rattle.market_model.specs.Changes.{with_price, with_quantity, with_demand, with_limit, line_with}
use Rattle.market_model.specs.Dispatch.{bus_at, block_at, line_at, place_of_bus}
use Rattle.market_model.specs.Frame.{bus_frame, block_frame, line_frame, frame, SameFrame}
use Rattle.market_model.proofs.ChangeLemmas.{map-set_same}
use Rattle.offer_book.specs.declared.edit_parts.Edit.{Edit}
use Rattle.offer_book.specs.declared.edit_parts.Edit.TheVariants as edit
use Rattle.market_model.specs.LimitRows.{has_limit}
use Rattle.offer_book.specs.Edits.{judge, changed, step_of, place_of_block, place_of_limit}
use Rattle.offer_book.specs.EditLaws.{LawOfTheEditedFrame, LawOfEditedFrames}
use Rattle.market_model.specs.Lines.{hard_line}

-- ---- one number changed
price_frame : (m : Parts) (j : ℕ) (price : ℤ) → SameFrame m (with_price m j price)
price_frame m j price = ap (λ (blocks : List Block). record (frame m) { blocks = blocks }) (sym (map-set_same block_frame m.blocks j (record (block_at m j) { price = price }) _ refl))

quantity_frame : (m : Parts) (j : ℕ) (mw : ℤ) → SameFrame m (with_quantity m j mw)
quantity_frame m j mw = ap (λ (blocks : List Block). record (frame m) { blocks = blocks }) (sym (map-set_same block_frame m.blocks j (record (block_at m j) { quantity = mw }) _ refl))

demand_frame : (m : Parts) (i : ℕ) (mw : ℤ) → SameFrame m (with_demand m i mw)
demand_frame m i mw = ap (λ (buses : List Bus). record (frame m) { buses = buses }) (sym (map-set_same bus_frame m.buses i (record (bus_at m i) { pd = mw }) _ refl))

-- a limit that there is stays one
line_same : (line : Line) (post : Bool) (mw : ℤ) → has_limit post line ≡ true → line_frame (line_with line post mw) ≡ line_frame line
line_same line true mw there = ap (λ (o : Option ℤ). record (line_frame line) { post = o }) (by line.post there)
  where
    by : (o : Option ℤ) → is_some o ≡ true → Some (pos 0) ≡ option_map (λ mw. pos 0) o
    by (Some x) e = refl
    by None e = absurd Prim.cc
line_same line false mw there = ap (λ (o : Option ℤ). record (line_frame line) { base = o }) (by line.base there)
  where
    by : (o : Option ℤ) → is_some o ≡ true → Some (pos 0) ≡ option_map (λ mw. pos 0) o
    by (Some x) e = refl
    by None e = absurd Prim.cc

limit_frame : (m : Parts) (l : ℕ) (post : Bool) (mw : ℤ) → has_limit post (line_at m l) ≡ true → SameFrame m (with_limit m l post mw)
limit_frame m l post mw there =
    ap (λ (lines : List Line). record (frame m) { lines = lines }) (sym (map-set_same line_frame m.lines l (line_with (line_at m l) post mw) _ (line_same (line_at m l) post mw there)))

-- ---- the limit that an edit names
second_true : (a b : Bool) → a && b ≡ true → b ≡ true
second_true true b e = e
second_true false b e = absurd Prim.cc

pub limit_there : (m : Parts) (row : ℤ) (post : Bool) (l : ℕ) → place_of_limit m row post ≡ Some l → has_limit post (line_at m l) ≡ true
unfolding place_of_limit
limit_there m row post l e =
    let found = position-Some (λ line. int_eq (pos line.row) row && has_limit post line) m.lines l (hard_line 0 None None (pos 0)) e in
    second_true _ _ found.1

-- ---- an edit
changed_frame : (m : Parts) (e : Edit) → SameFrame m (changed m e)
changed_frame m (edit.Price row side number price) = by (place_of_block m row side number)
  where
    by : (o : Option ℕ) → SameFrame m (option_map_or (λ j. with_price m j price) o m)
    by None = refl
    by (Some j) = price_frame m j price
changed_frame m (edit.Quantity row side number mw) = by (place_of_block m row side number)
  where
    by : (o : Option ℕ) → SameFrame m (option_map_or (λ j. with_quantity m j mw) o m)
    by None = refl
    by (Some j) = quantity_frame m j mw
changed_frame m (edit.Demand number mw) = by (place_of_bus m.buses number)
  where
    by : (o : Option ℕ) → SameFrame m (option_map_or (λ i. with_demand m i mw) o m)
    by None = refl
    by (Some i) = demand_frame m i mw
changed_frame m (edit.Limit row post mw) = by (place_of_limit m row post) refl
  where
    by : (o : Option ℕ) → place_of_limit m row post ≡ o → SameFrame m (option_map_or (λ l. with_limit m l post mw) o m)
    by None e = refl
    by (Some l) e = limit_frame m l post mw (limit_there m row post l e)
changed_frame m (edit.Need mw) = refl

pub law_of_the_edited_frame : LawOfTheEditedFrame
law_of_the_edited_frame m e = by (is_some (judge m e))
  where
    by : (refused : Bool) → SameFrame m (if refused then m else changed m e)
    by true = refl
    by false = changed_frame m e

-- ---- edits
pub law_of_edited_frames : LawOfEditedFrames
law_of_edited_frames m [] = refl
law_of_edited_frames m (e ∷ edits) = law_of_the_edited_frame m e ∙ law_of_edited_frames (step_of m e) edits
