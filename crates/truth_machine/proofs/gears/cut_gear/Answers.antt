-- The lists of fewer nodes are empty too.
use Rattle.std.proofs.Common.{true, false}
use Rattle.truth_machine.proofs.GearLemmas.{AreLists-cut}
use Rattle.truth_machine.proofs.gears.cut_gear.Goals as goal

pub returns : goal.returns
returns g c =
    let (count, is, fewer) = c.requires in
    let gear = c.args.gear.now in
    record {
      parts_are = is.parts_are;
      agenda_is = is.agenda_is;
      readers_are = rw c.truncate.ensures.items (AreLists-cut false count c.args.nodes gear.readers.items fewer is.readers_are);
      owners_are = rw c.truncate-2.ensures.items (AreLists-cut true count c.args.nodes gear.owners.items fewer is.owners_are);
      workspace_is = is.workspace_is;
    }
