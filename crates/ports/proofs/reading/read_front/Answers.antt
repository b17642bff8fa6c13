use Rattle.std.proofs.Common.{◌≡◌, [], ◌∷◌, rules}
use Rattle.ports.specs.Taken.{with_files}
use Rattle.ports.proofs.TakenLemmas.{files_read}
use Rattle.ports.proofs.reading.read_front.Goals as goal

pub returns-clause-most : goal.returns-clause-most
returns-clause-most g c =
    let opened : g.F.Files.taken c.start.new.self ≡ with_files (g.F.Files.taken c.args.files.now) (0 ∷ []) = search rules in
    files_read _ _ _ c.args.most opened c.read_rest.ensures.most
