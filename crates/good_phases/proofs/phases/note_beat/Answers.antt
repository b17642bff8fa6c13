-- The phase is noted if nothing was left out.
use Rattle.std.proofs.Common.{inl, inr, refl, sym, ◌∙◌}
use Rattle.good_phases.proofs.phases.note_beat.Goals as goal

pub returns-then-not-is_whole : goal.returns-then-not-is_whole
returns-then-not-is_whole c = inl refl

pub returns : goal.returns
returns c =
    elim c.push_beat.ensures [ inl same ↦ inl same | inr more ↦ inr (sym c.is_whole.ensures ∙ c.if-not-is_whole.false, more) ]
