use Rattle.case_maker.proofs.DrawLemmas.{drawn-by_states, four-states, state-behind}
use Rattle.case_maker.proofs.draws.Draws.bus.Goals as goal

pub returns-clause-drawn : goal.returns-clause-drawn
returns-clause-drawn c = λ seed i start.
    drawn-by_states seed i c.draw.new.self.state c.draw-2.new.self.state c.draw-3.new.self.state c.draw-4.new.self.state c.draw.result c.draw-2.result c.draw-3.result c.draw-4.result
    (four-states seed i c.args.self.now.state c.draw.new.self.state c.draw-2.new.self.state c.draw-3.new.self.state c.draw-4.new.self.state start
    c.draw.ensures.state c.draw-2.ensures.state c.draw-3.ensures.state c.draw-4.ensures.state)
    c.draw.ensures.upper c.draw-2.ensures.upper c.draw-3.ensures.upper c.draw-4.ensures.upper

pub returns-clause-state : goal.returns-clause-state
returns-clause-state c = λ seed i start.
    state-behind seed i c.draw.new.self.state c.draw-2.new.self.state c.draw-3.new.self.state c.draw-4.new.self.state
    (four-states seed i c.args.self.now.state c.draw.new.self.state c.draw-2.new.self.state c.draw-3.new.self.state c.draw-4.new.self.state start
    c.draw.ensures.state c.draw-2.ensures.state c.draw-3.ensures.state c.draw-4.ensures.state)
