-- If nothing was known, what was made is.
use Rattle.std.proofs.Common.{sym, subst}
use Rattle.run_beside.specs.Near.{AreNearIn}
use Rattle.run_beside.proofs.NearLemmas.{known}
use Rattle.run_beside.proofs.near.know_near.Goals as goal

pub returns-then-is_none : goal.returns-then-is_none
returns-then-is_none c = λ list counted are.
    subst (AreNearIn list c.args.owners.now) (sym c.ok.ensures.value) (known list c.args.owners.now c.args.parts c.new.result c.new.ensures counted)
