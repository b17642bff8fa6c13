-- The code stands where it was put.
use Rattle.std.proofs.Common.{Vec, Global, sym, subst}
use Rattle.std.specs.declared.rc.Rc.{Rc}
use Rattle.straight_code.specs.Code.{CodeData}
use Rattle.part_steps.specs.Dense.{IsCodeAt}
use Rattle.part_steps.proofs.dense.DenseParts.add_code.Goals as goal

pub returns-clause-there : goal.returns-clause-there
returns-clause-there c =
    subst (λ (list : Vec (Rc CodeData Global) Global). IsCodeAt list.items c.in_ok-place.place c.args.code.now.value) (sym c.make_known.ensures.codes)
    c.in_ok-place.ensures.there
