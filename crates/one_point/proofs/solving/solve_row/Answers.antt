use Rattle.std.proofs.Common.{◌+◌, sym, subst₂, Bool, List}
use Rattle.linear_dict.specs.Dictionaries.{Dictionary}
use Rattle.one_point.specs.Known.{IsSolvedBefore}
use Rattle.one_point.proofs.Exchanges.{solved_more, solved_over}
use Rattle.one_point.proofs.solving.solve_row.Goals.{in-Some+in_ok-pivot, in_default}
use Rattle.one_point.proofs.solving.solve_row.Goals as goal

pub returns : goal.returns
returns g c = λ d marks is. elim c.match-unknown_column.branch [
  | in-Some+in_ok-pivot w ↦
      subst₂ (λ (e : Dictionary) (now : List Bool). IsSolvedBefore d marks (c.args.row + 1) e now) (sym w.dict-is) (sym w.known-is)
      (solved_more d marks c.args.row c.args.dict.now c.args.known.now is w.in-Some.column c.requires.row.0 c.requires.row.1 w.in-Some.ensures.0 w.pivot.new.self w.in_ok-pivot.ensures.pivoted w.pivot.ensures.sound)
  | in_default w ↦
      subst₂ (λ (e : Dictionary) (now : List Bool). IsSolvedBefore d marks (c.args.row + 1) e now) (sym w.dict-is) (sym w.known-is) (solved_over d marks c.args.row c.args.dict.now c.args.known.now is)
]
