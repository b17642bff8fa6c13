-- Any node may have changed.
use Rattle.std.proofs.Common.{length, refl, sym, subst}
use Rattle.settling.specs.Moved.{ListsChanges}
use Rattle.settling.proofs.NumbersLemmas.{listed_after}
use Rattle.unit_step.specs.Listing.{nodes_told}
use Rattle.good_phases.proofs.noting.note_begin.Goals as goal

pub begin-requires : goal.begin-requires
begin-requires c = (
  c.args.run.now.known,
  refl,
  subst (λ told. ListsChanges (nodes_told told (length c.args.machine.now.state)) c.args.run.now.known c.args.machine.now.state)
      (sym c.requires.none) (listed_after c.args.run.now.known c.args.machine.now.state (sym c.requires.counted)),
)
