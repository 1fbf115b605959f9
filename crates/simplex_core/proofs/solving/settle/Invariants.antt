use Rattle.linear_dict.specs.Dictionaries.{choice_of}
use Rattle.simplex_core.specs.Fixed.{KeepsFixed}
use Rattle.simplex_core.specs.Outcomes.{Keeps}
use Rattle.simplex_core.proofs.Nexts.{to_come}
use Rattle.simplex_core.proofs.solving.settle.Given as goal

abbrev pub invariant-loop-variable : goal.invariant-loop-variable
invariant-loop-variable g l = record { kept : Keeps l.fn.dict l.dict; fixed : KeepsFixed l.fn.dict (choice_of l.dict) }

abbrev pub decreases-loop-variable : goal.decreases-loop-variable
decreases-loop-variable g l = to_come l.dict
