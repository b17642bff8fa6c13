-- The place is in the list of the first end, and stays there while it comes into that of the second.
use Rattle.std.proofs.Common.{◌≡◌}
use Rattle.why_path.proofs.ends.note_ends.Goals as goal

pub returns-clause-noted : goal.returns-clause-noted
returns-clause-noted c = λ here is.
    let switch = c.in-Some.switch in
    let same : switch ≡ here = let found = c.in-Some.is in cc in
    let first = c.in_ok-note-2.ensures.kept switch.a c.args.place c.in_ok-note.ensures.noted in
    rw (← same) (first, c.in_ok-note-2.ensures.noted)
