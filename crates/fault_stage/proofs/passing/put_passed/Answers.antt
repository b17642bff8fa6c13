-- The phase stands behind the others, or there was no memory for it.
use Rattle.fault_stage.specs.Passing.{IsPassed}
use Rattle.fault_stage.proofs.PassingLemmas.{all_put}
use Rattle.fault_stage.proofs.passing.put_passed.Goals as goal

pub returns : goal.returns
returns c =
    all_put (IsPassed c.args.graph.now) c.make_place.new.passes.items c.push.new.self.items c.args.passed _ c.push.ensures.items c.make_place.ensures
    c.requires.passed
