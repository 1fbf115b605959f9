use Rattle.std.proofs.Common.{◌≡◌, ◌+◌, ◌-◌, ℕ, Bool, List, take, drop, get_or, sym, ap, ◌∙◌, arith, eq-eqb, true, false, cond, ◌&&◌, ◌++◌}
use Rattle.std.proofs.lemmas.Bool.{ne_eqb}
use Rattle.std.proofs.lemmas.List.{length-take}
use Rattle.std.specs.Prelude.{count_by}
use Rattle.case_tokens.specs.Bytes.{is_blank, is_line_end}
use Rattle.case_tokens.specs.TokenLists.{is_blank_line}
use Rattle.case_tokens.proofs.TokenLemmas.{line_ends-more, blank-more, passed-all}
use Rattle.case_tokens.proofs.cursor.passed.Goals as goal
use Rattle.case_tokens.proofs.cursor.passed.Goals.{then-byte-eq10, else-byte-eq10+then-blank, else-byte-eq10+else-blank}

pub loop-byte-preserved : goal.loop-byte-preserved
loop-byte-preserved c =
    let cursor = c.args.cursor in
    let before : List ℕ = take cursor.place cursor.text.now in
    let items : List ℕ = take (cursor.place + c.args.count - cursor.place) (drop cursor.place cursor.text.now) in
    let at : ℕ = c.loop-byte.byte-index in
    let byte : ℕ = get_or items at 0 in
    let old = c.loop-byte.invariant in
    let lines : ℕ = c.loop-byte.line_ends in
    let blank : Bool = c.loop-byte.blank in
    elim c.if-byte-eq10.branch [
      | then-byte-eq10 w ↦
          let ends : is_line_end byte ≡ true = eq-eqb byte 10 w.if-byte-eq10.true in
          record {
            few = Prim.omega arith;
            line_ends = line_ends-more before items at lines _ c.loop-byte-test.true old.line_ends (ap (λ t. lines + cond t 1 0) ends ∙ sym w.line_ends-is);
            blank = blank-more before items at blank _ c.loop-byte-test.true old.blank (ap (λ t. cond t true (blank && is_blank byte)) ends ∙ sym w.blank-is);
          }
      | else-byte-eq10+then-blank w ↦
          let goes_on : is_line_end byte ≡ false = ne_eqb byte 10 w.if-byte-eq10.false in
          record {
            few = Prim.omega arith;
            line_ends = line_ends-more before items at lines _ c.loop-byte-test.true old.line_ends (ap (λ t. lines + cond t 1 0) goes_on ∙ Prim.omega arith);
            blank = blank-more before items at blank _ c.loop-byte-test.true old.blank
                (ap (λ t. cond t true (blank && is_blank byte)) goes_on ∙ ap (λ t. t && is_blank byte) w.if-blank.true ∙ sym w.is_blank-blank.ensures ∙ sym w.blank-is);
          }
      | else-byte-eq10+else-blank w ↦
          let goes_on : is_line_end byte ≡ false = ne_eqb byte 10 w.if-byte-eq10.false in
          record {
            few = Prim.omega arith;
            line_ends = line_ends-more before items at lines _ c.loop-byte-test.true old.line_ends (ap (λ t. lines + cond t 1 0) goes_on ∙ Prim.omega arith);
            blank = blank-more before items at blank _ c.loop-byte-test.true old.blank
                (ap (λ t. cond t true (blank && is_blank byte)) goes_on ∙ ap (λ t. t && is_blank byte) w.if-blank.false ∙ sym w.if-blank.false ∙ sym w.blank-is);
          }
    ]

pub returns-clause-valid : goal.returns-clause-valid
returns-clause-valid c =
    let cursor = c.args.cursor in
    let text : List ℕ = cursor.text.now in
    let part : ℕ = cursor.place + c.args.count - cursor.place in
    let few : ℕ = c.loop-byte.byte-index in
    let all : take cursor.place text ++ take few (take part (drop cursor.place text)) ≡ take (cursor.place + c.args.count) text =
    ap (λ n. take cursor.place text ++ take few (take n (drop cursor.place text))) (Prim.omega arith)
    ∙ passed-all text cursor.place c.args.count few c.requires.within (Prim.omega (arith, length-take part (drop cursor.place text), length-take c.args.count (drop cursor.place text))) in
    record {
      within = c.requires.within;
      line_ends = c.loop-byte.invariant.line_ends ∙ ap (count_by is_line_end) all;
      blank = c.loop-byte.invariant.blank ∙ ap is_blank_line all;
      opened = Prim.omega arith;
      closed = Prim.omega arith;
    }
