-- What the maker finds for the node's rails is what all columns have.
use Rattle.symbol_looking.proofs.LetterLemmas.{letter_found}
use Rattle.symbol_looking.proofs.StageLemmas.{high_inside}
use Rattle.symbol_looking.proofs.letters.letter.Goals as goal

pub rails-requires : goal.rails-requires
rails-requires c = high_inside c.args.stage.now c.args.node c.requires

pub state-requires : goal.state-requires
state-requires c = record {
  hi = rw c.symbols-symbols.ensures c.rails.ensures.high_has;
  lo = rw c.symbols-symbols.ensures c.rails.ensures.low_has;
}

pub returns : goal.returns
returns c =
    letter_found c.args.stage.now c.args.node c.symbols-symbols.result.now c.rails.result.0 c.rails.result.1 c.state.result c.symbols-symbols.ensures
    c.rails.ensures.high_has c.rails.ensures.low_has c.rails.ensures.one c.rails.ensures.zero
    (c.size.ensures.reduced, c.state.ensures.alike, c.state.ensures.varies)
