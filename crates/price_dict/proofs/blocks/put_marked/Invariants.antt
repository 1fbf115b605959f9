use Rattle.price_dict.specs.Marked.{HoldsMarked}
use Rattle.price_dict.proofs.blocks.put_marked.Given as goal

abbrev pub invariant-loop-place : goal.invariant-loop-place
invariant-loop-place g l = HoldsMarked l.market l.columns l.marks l.place l.dict
