use Rattle.net_gen.specs.Families.{draws_in_turn, turn}
use Rattle.net_gen.proofs.LinesLemmas.{AfterTurns}
use Rattle.net_gen.proofs.families.put_script.Given as goal

abbrev pub invariant-loop-turn : goal.invariant-loop-turn
invariant-loop-turn l =
    AfterTurns (turn l.kind) (draws_in_turn l.kind) l.seed l._turn l.initial.text.items l.text.items l.draws.seed l.draws.drawn
