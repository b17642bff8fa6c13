use Rattle.spice_cards.proofs.ReadingLemmas.{begun_inside}
use Rattle.spice_cards.proofs.reading.Reading.begin.Goals as goal

pub returns : goal.returns
returns c =
    begun_inside c.self.inside.pool c.keep.new.self _ _ _ c.self.inside.begun c.inside-opening.result _ _ c.args.line _ c.args.count
    c.inside-opening.ensures c.self.invariant c.self.view_is c.in_ok-keep.ensures.ok
