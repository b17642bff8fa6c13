-- A command that has nothing built passes through no states, and what it makes of the state is its effect.
use Rattle.std.proofs.Common.{refl}
use Rattle.script_lang.specs.declared.command.Command.TheVariants as family
use Rattle.session_meaning.proofs.OutcomeLemmas.{obeys_alone, on_ok, on_ok-map, quiet_obeys, still_after, still_always}
use Rattle.session_meaning.proofs.PassingLemmas.{knows-edit, knows-give, knows-run, knows-setup, knows-tell, nothing_seen, unseen_yet}
use Rattle.cosmos_session.proofs.session.Session.obey.Goals as goal

pub run-requires-clause-session : goal.run-requires-clause-session
run-requires-clause-session g c = c.requires.session

pub returns-in-Edit-clause-obeys : goal.returns-in-Edit-clause-obeys
returns-in-Edit-clause-obeys g c =
    rw c.in-Edit.is (quiet_obeys g.L.Lines.hear g.L.Lines.part g.M.Columns.did c.args.self.now c.edit.new.self (family.Edit c.in-Edit.edit) _ _ _ c.edit.result refl
    c.edit.ensures.quiet c.edit.ensures.stage c.edit.ensures.still)

pub returns-in-Give-clause-obeys : goal.returns-in-Give-clause-obeys
returns-in-Give-clause-obeys g c =
    rw c.in-Give.is (quiet_obeys g.L.Lines.hear g.L.Lines.part g.M.Columns.did c.args.self.now c.give.new.self (family.Give c.in-Give.give) _ _ _ c.give.result refl
    c.give.ensures.quiet c.give.ensures.stage (still_after g.M.Columns.did c.args.self.now.stage c.give.new.self.stage c.give.result c.give.ensures.still))

pub returns-in-Setup-clause-obeys : goal.returns-in-Setup-clause-obeys
returns-in-Setup-clause-obeys g c =
    rw c.in-Setup.is (quiet_obeys g.L.Lines.hear g.L.Lines.part g.M.Columns.did c.args.self.now c.set_up.new.self (family.Setup c.in-Setup.setup) _ _ _
    c.set_up.result refl c.set_up.ensures.quiet (on_ok _ c.set_up.result c.set_up.ensures.stage)
    (still_always g.M.Columns.did c.args.self.now.stage c.set_up.new.self.stage c.set_up.result c.set_up.ensures.stage))

pub returns-in-Run-clause-obeys : goal.returns-in-Run-clause-obeys
returns-in-Run-clause-obeys g c = rw c.in-Run.is c.run.ensures.obeys

pub returns-in-Tell-clause-obeys : goal.returns-in-Tell-clause-obeys
returns-in-Tell-clause-obeys g c = rw c.in-Tell.is (c.tell.ensures.obeys (g.A.Analyst.analysed c.args.analyst.now))

pub returns-in-Edit-clause-seen : goal.returns-in-Edit-clause-seen
returns-in-Edit-clause-seen g c = on_ok _ c.edit.result (rw c.in-Edit.is (nothing_seen g.O.Observer.begin g.O.Observer.see g.O.Observer.rest (g.O.Observer.seen c.args.onlooker.now)))

pub returns-in-Edit-clause-knows : goal.returns-in-Edit-clause-knows
returns-in-Edit-clause-knows g c =
    rw c.in-Edit.is (knows-edit g.O.Observer.knows c.args.onlooker.now c.args.self.now.core c.edit.new.self.core c.requires.knows c.in-Edit.edit c.edit.result
    c.edit.ensures.quiet)

pub returns-in-Give-clause-seen : goal.returns-in-Give-clause-seen
returns-in-Give-clause-seen g c = on_ok _ c.give.result (rw c.in-Give.is (nothing_seen g.O.Observer.begin g.O.Observer.see g.O.Observer.rest (g.O.Observer.seen c.args.onlooker.now)))

pub returns-in-Give-clause-knows : goal.returns-in-Give-clause-knows
returns-in-Give-clause-knows g c =
    rw c.in-Give.is (knows-give g.O.Observer.knows c.args.onlooker.now c.args.self.now.core c.give.new.self.core c.requires.knows
    c.requires.session.core.ready c.in-Give.give c.give.result c.give.ensures.quiet)

pub returns-in-Setup-clause-seen : goal.returns-in-Setup-clause-seen
returns-in-Setup-clause-seen g c = on_ok _ c.set_up.result (rw c.in-Setup.is (nothing_seen g.O.Observer.begin g.O.Observer.see g.O.Observer.rest (g.O.Observer.seen c.args.onlooker.now)))

pub returns-in-Setup-clause-knows : goal.returns-in-Setup-clause-knows
returns-in-Setup-clause-knows g c =
    rw c.in-Setup.is (knows-setup g.O.Observer.knows c.args.onlooker.now c.args.self.now.core c.set_up.new.self.core c.requires.knows c.in-Setup.setup
    c.set_up.result c.set_up.ensures.quiet)

pub returns-in-Run-clause-seen : goal.returns-in-Run-clause-seen
returns-in-Run-clause-seen g c = rw c.in-Run.is c.run.ensures.seen

pub returns-in-Run-clause-knows : goal.returns-in-Run-clause-knows
returns-in-Run-clause-knows g c =
    rw c.in-Run.is (on_ok-map _ _ c.run.result (knows-run g.O.Observer.knows c.run.new.onlooker c.args.self.now.core c.run.new.self.core _) c.run.ensures.knows)

pub returns-in-Tell-clause-seen : goal.returns-in-Tell-clause-seen
returns-in-Tell-clause-seen g c = on_ok _ c.tell.result (rw c.in-Tell.is (nothing_seen g.O.Observer.begin g.O.Observer.see g.O.Observer.rest (g.O.Observer.seen c.args.onlooker.now)))

pub returns-in-Tell-clause-knows : goal.returns-in-Tell-clause-knows
returns-in-Tell-clause-knows g c =
    rw c.in-Tell.is (knows-tell g.O.Observer.knows c.args.onlooker.now c.args.self.now.core c.tell.new.self.core c.requires.knows g.L.Lines.hear g.L.Lines.part
    c.in-Tell.tell _ _ _ _ _ _ c.tell.result
    (obeys_alone g.L.Lines.hear g.L.Lines.part g.M.Columns.did c.args.self.now c.tell.new.self (family.Tell c.in-Tell.tell) _ _ _ _ _ _ c.tell.result
    (c.tell.ensures.obeys (g.A.Analyst.analysed c.args.analyst.now))))

pub returns-in-Edit-clause-unseen : goal.returns-in-Edit-clause-unseen
returns-in-Edit-clause-unseen g c = unseen_yet c.args.onlooker.now _ _ _ _ c.edit.result

pub returns-in-Give-clause-unseen : goal.returns-in-Give-clause-unseen
returns-in-Give-clause-unseen g c = unseen_yet c.args.onlooker.now _ _ _ _ c.give.result

pub returns-in-Setup-clause-unseen : goal.returns-in-Setup-clause-unseen
returns-in-Setup-clause-unseen g c = unseen_yet c.args.onlooker.now _ _ _ _ c.set_up.result

pub returns-in-Tell-clause-unseen : goal.returns-in-Tell-clause-unseen
returns-in-Tell-clause-unseen g c = unseen_yet c.args.onlooker.now _ _ _ _ c.tell.result
