use Rattle.std.proofs.Common.{sym, subst, bit_or}
use Rattle.part_words.specs.Members.{HasState}
use Rattle.part_words.specs.Noting.{after}
use Rattle.part_words.proofs.ColumnStates.{HasState-join}
use Rattle.part_words.proofs.note.after.Goals as goal

pub returns-then-joining : goal.returns-then-joining
returns-then-joining c column state value old given =
    subst (λ joining. HasState column (bit_or c.args.old.0 c.args.given.0) (bit_or c.args.old.1 c.args.given.1) (after joining state value))
    (sym c.if-joining.true) (HasState-join column c.args.old.0 c.args.old.1 c.args.given.0 c.args.given.1 state value old given)
