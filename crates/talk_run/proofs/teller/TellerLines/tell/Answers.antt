-- The line's text is put into empty room, and said from there.
use Rattle.std.proofs.Common.{◌∙◌}
use Rattle.told_lines.specs.Lines.{line_seen}
use Rattle.talk_run.proofs.SpokenLemmas.{speaks_ok, speaks_part}
use Rattle.talk_run.proofs.teller.TellerLines.tell.Goals as goal

pub returns-clause-ok : goal.returns-clause-ok
returns-clause-ok g c =
    rw (← c.self.view_is)
    (speaks_ok (g.T.Talk.talk c.self.inside.port) _ (g.T.Talk.unheard c.self.inside.port) _
    (record { column = c.args.column; line = line_seen c.args.line }) _ _ c.self.invariant (c.bytes.ensures ∙ c.put_told.ensures.bytes)
    c.say-said.ensures.hearing c.say-said.result c.say-said.ensures.ok)

pub returns-clause-part : goal.returns-clause-part
returns-clause-part g c =
    rw (← c.self.view_is)
    (speaks_part (g.T.Talk.talk c.self.inside.port) _ (g.T.Talk.unheard c.self.inside.port) _
    (record { column = c.args.column; line = line_seen c.args.line }) _ _ c.self.invariant (c.bytes.ensures ∙ c.put_told.ensures.bytes)
    c.say-said.ensures.hearing c.say-said.result c.say-said.ensures.part)
