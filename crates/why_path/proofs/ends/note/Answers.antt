-- The list of the node has one place more, the other lists are as before.
use Rattle.std.proofs.Common.{rules, ◌≡◌, ◌++◌, ◌∷◌, []}
use Rattle.why_path.proofs.SearchLemmas.{noted_kept, noted_here}
use Rattle.why_path.proofs.ends.note.Goals as goal

pub returns-clause-kept : goal.returns-clause-kept
returns-clause-kept c =
    let longer : c.push.new.self.items ≡ c.index_mut.result.now.items ++ c.args.place ∷ [] = search rules in
    noted_kept c.args.ends.now.items c.args.node c.args.place c.index_mut.result.now c.push.new.self c.requires c.index_mut.ensures.value longer

pub returns-clause-noted : goal.returns-clause-noted
returns-clause-noted c =
    let longer : c.push.new.self.items ≡ c.index_mut.result.now.items ++ c.args.place ∷ [] = search rules in
    noted_here c.args.ends.now.items c.args.node c.args.place c.index_mut.result.now c.push.new.self c.requires longer
