-- No node has a reader, so none has one twice.
use Rattle.std.proofs.Common.{◌≡◌, ℕ, zero, suc, [], List, get_or, refl, ap, ◌∙◌}
use Rattle.std.specs.Prelude.{replicate}
use Rattle.part_steps.proofs.ReadersLemmas.{AreEachOnce-none}
use Rattle.part_steps.proofs.readers.no_readers.Goals as goal

empty_read : (count node : ℕ) → get_or (replicate {A = List ℕ} count []) node [] ≡ []
empty_read zero node = refl
empty_read (suc count) zero = refl
empty_read (suc count) (suc node) = empty_read count node

pub returns-clause-each : goal.returns-clause-each
returns-clause-each c =
    AreEachOnce-none c.loop.readers.items (λ node.
    ap (λ (lists : List (List ℕ)). get_or lists node []) c.loop.invariant ∙ empty_read c.loop.counter node)
