use Rattle.std.proofs.Common.{All, subst, sym}
use Rattle.spice_read.specs.Lookups.{IsFound}
use Rattle.spice_read.proofs.LookupLemmas.{kept-more}
use Rattle.spice_read.proofs.lookups.keep.Goals as goal

pub returns-in-Ok : goal.returns-in-Ok
returns-in-Ok c = λ deck are is. subst (All (IsFound deck)) (sym c.in-Ok.ensures.entries) (kept-more deck c.args.cards.now.entries c.args.line _ are is)

pub returns-in-Err : goal.returns-in-Err
returns-in-Err c = λ deck are is. subst (All (IsFound deck)) (sym c.in-Err.ensures.err) are
