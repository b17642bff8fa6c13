-- The status is the end's, and so are the counts.
use Rattle.std.proofs.Common.{sym, ap, ◌∙◌}
use Rattle.cosmos_app.specs.Counts.{sink_count}
use Rattle.cosmos_app.proofs.CountLemmas.{sink_counted}
use Rattle.cosmos_app.proofs.TalkLemmas.{talk_ended, handed_by, read_by}
use Rattle.cosmos_app.proofs.talking.talk.Goals as goal

pub returns-clause-answer : goal.returns-clause-answer
returns-clause-answer g c =
    talk_ended (g.F.Files.holds c.args.files.now) c.args.net.now _ c.args.out.now.spoken.talk c.hold.new.out.spoken.talk c.hold.result c.end_status.result
    c.end_status.ensures c.hold.ensures.told

pub returns-clause-handed : goal.returns-clause-handed
returns-clause-handed g c = handed_by c.hold.new.out.behind c.hold.result c.end_status.result c.end_status.ensures c.hold.ensures.handed

pub returns-clause-read : goal.returns-clause-read
returns-clause-read g c =
    read_by (g.F.Files.faults c.args.files.now) (g.F.Files.faults c.hold.new.files) c.args.out.now.spoken.unheard c.hold.new.out.spoken.unheard
    c.hold.result c.end_status.result c.end_status.ensures c.hold.ensures.read

pub returns-clause-write : goal.returns-clause-write
returns-clause-write g c =
    c.hold.ensures.write ∙ sink_counted c.args.out.now.faults c.hold.result ∙ ap (sink_count c.args.out.now.faults) (sym c.end_status.ensures)
