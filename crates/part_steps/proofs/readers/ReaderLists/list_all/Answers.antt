-- These parts stand in no list.
use Rattle.std.proofs.Common.{subst, ◌∙◌}
use Rattle.std.specs.Prelude.{Contains}
use Rattle.machine_parts.specs.Readers.{readers_of}
use Rattle.part_steps.proofs.readers.ReaderLists.list_all.Goals as goal

pub list_all-requires-clause-unlisted : goal.list_all-requires-clause-unlisted
list_all-requires-clause-unlisted c = λ node k among there.
    c.requires.unlisted node k among
    (subst (λ lists. Contains (readers_of lists node) k) (c.deref_mut.ensures.value ∙ c.self.view_is) there)
