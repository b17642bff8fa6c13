use Rattle.std.proofs.Common.{ap}
use Rattle.ports.specs.HonestPorts.{HonestFilesData}
use Rattle.ports.proofs.HonestLemmas.{held_at_place, with_rest}
use Rattle.ports.proofs.honest_files.HonestFiles.open.Goals as goal

pub returns : goal.returns
returns c =
    with_rest _ _ _ _ c.self.view_is
    (held_at_place _ _ _ c.args.name.now _ c.place_of-place.ensures c.deref.ensures.value (ap (λ (files : HonestFilesData). files.table) c.self.view_is))
