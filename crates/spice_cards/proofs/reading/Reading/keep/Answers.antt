use Rattle.spice_cards.proofs.ReadingLemmas.{IsReading-inside, IsReading-outside, kept_inside}
use Rattle.spice_cards.proofs.reading.Reading.keep.Goals as goal

pub returns-in-Some : goal.returns-in-Some
returns-in-Some c =
    kept_inside c.keep.result c.self.inside.pool c.keep.new.self _ _ _ c.self.inside.begun c.in-Some.field-0 _ _ c.args.line c.args.sort c.args.count
    c.in-Some.is c.self.invariant c.self.view_is c.keep.ensures.ok

pub invariant_of-self : goal.invariant_of-self
invariant_of-self c = IsReading-inside c.keep.result _ _ _ _ _ c.keep.ensures.err c.keep.ensures.ok c.self.invariant

pub invariant_of-self-in-None : goal.invariant_of-self-in-None
invariant_of-self-in-None c = IsReading-outside c.keep-in-None.result _ _ _ _ _ c.keep-in-None.ensures.err c.keep-in-None.ensures.ok c.self.invariant
