use Rattle.std.proofs.Common.{sym, ap, ◌∙◌, arith}
use Rattle.case_tokens.specs.Pieces.{more}
use Rattle.case_tokens.proofs.PieceLemmas.{more-more, string-passes, string-skips, string-stops, quote_no_line_end}
use Rattle.case_tokens.proofs.pieces.string_length.Goals as goal

pub loop-at-preserved-then-behind-at : goal.loop-at-preserved-then-behind-at
loop-at-preserved-then-behind-at c = record {
  within = Prim.omega arith;
  same =
      c.loop-at.invariant.same ∙ ap (more c.loop-at.at) (string-passes c.args.quote c.loop-at.at c.args.behind.now c.loop-at-test.true c.if-behind-at-ne10.true c.if-behind-at.true)
      ∙ more-more c.loop-at.at 1 _;
}

pub loop-at-preserved : goal.loop-at-preserved
loop-at-preserved c = record {
  within = Prim.omega arith;
  same =
      c.loop-at.invariant.same
      ∙ ap (more c.loop-at.at)
      (string-skips c.args.quote c.loop-at.at c.args.behind.now c.if-at-behind.true (quote_no_line_end c.args.quote c.requires) c.if-behind-at.false c.if-behind-at-2.true)
      ∙ more-more c.loop-at.at 2 _;
}

pub returns-else-behind-at-ne10-clause-value : goal.returns-else-behind-at-ne10-clause-value
returns-else-behind-at-ne10-clause-value c =
    sym (c.loop-at.invariant.same
    ∙ ap (more c.loop-at.at) (string-stops c.args.quote c.loop-at.at c.args.behind.now c.loop-at-test.true (quote_no_line_end c.args.quote c.requires) c.if-behind-at-ne10.false))
