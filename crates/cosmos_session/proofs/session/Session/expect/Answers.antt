use Rattle.std.proofs.Common.{◌≡◌, ◌≤◌, Bool, ◌||◌, not, None, refl, sym, ap, rules, arith}
use Rattle.std.specs.List.{list_any}
use Rattle.std.proofs.lemmas.List.Elements.{All-weaker}
use Rattle.std.proofs.lemmas.Result.{err_from_is_err_and}
use Rattle.told_lines.specs.Lines.{is_unmet, room_of}
use Rattle.script_lang.specs.declared.command.Command.TheVariants as family
use Rattle.script_lang.specs.declared.command.Tell.TheVariants as asked
use Rattle.session_meaning.specs.Refusals.{refusal_of}
use Rattle.session_meaning.specs.Effects.{unmet_lines}
use Rattle.session_meaning.proofs.StayingLemmas.{session_of}
use Rattle.session_meaning.proofs.LineLemmas.{unmet_any}
use Rattle.session_meaning.proofs.OutcomeLemmas.{fault_obeys, fault_uncounted, still_obeys}
use Rattle.cosmos_session.proofs.session.Session.expect.Goals as goal

pub returns-in_err-lines-clause-obeys : goal.returns-in_err-lines-clause-obeys
returns-in_err-lines-clause-obeys g c = λ texts.
    let stopped = err_from_is_err_and c.from_residual.result c.from_residual.ensures.1 in
    rw (stopped.1, stopped.2)
    (fault_obeys g.L.Lines.hear g.L.Lines.part g.M.Columns.did c.args.self.now (family.Tell (asked.Expect c.args.list.now)) _ texts _ _
    (rw c.items.ensures at c.in_err-lines.ensures.refused))

pub returns-in_err-lines-clause-faults : goal.returns-in_err-lines-clause-faults
returns-in_err-lines-clause-faults g c =
    let stopped = err_from_is_err_and c.from_residual.result c.from_residual.ensures.1 in
    rw (stopped.1, stopped.2) (fault_uncounted _ _ _ c.in_err-lines.ensures.refused)

pub tell_unmet-told-requires : goal.tell_unmet-told-requires
tell_unmet-told-requires g c = record {
  room = rw c.deref-2.ensures.value
      (All-weaker (λ line. room_of line ≤ c.room_for.result) (λ line. room_of line ≤ g.L.Lines.room c.reserve.new.self)
      (λ line fits. let enough = c.in_ok-reserve.ensures.ok in omega (arith, fits, enough)) c.in_ok-lines.lines.items
      (rw c.deref.ensures.value at c.room_for.ensures));
}

pub returns-clause-obeys : goal.returns-clause-obeys
returns-clause-obeys g c = λ texts.
    let session = session_of c.self.invariant.0 in
    let core = session.core in
    let command = family.Tell (asked.Expect c.args.list.now) in
    let lines = unmet_lines core c.args.list.now in
    let told : c.in_ok-lines.lines.items ≡ lines = rw (c.items.ensures, ← c.self.view_is) at c.in_ok-lines.ensures.lines in
    let allowed : refusal_of core command ≡ None = rw (c.items.ensures, ← c.self.view_is) at c.in_ok-lines.ensures.allowed in
    let any : not c.is_empty.result ≡ list_any is_unmet lines = rw (← told) (search (rules, sym (unmet_any core c.args.list.now), told)) in
    let missed = λ (any : Bool). record core { missed = core.missed || any } in
    rw (← c.self.view_is)
    (still_obeys g.L.Lines.hear g.L.Lines.part g.M.Columns.did session _ command lines _ _ texts _ _ c.tell_unmet-told.result refl allowed
    (ap missed any, refl) (lines, (ap missed any, refl)) (rw (c.deref-2.ensures.value, told, c.reserve.ensures.heard) at c.tell_unmet-told.ensures.sent)
    c.tell_unmet-told.ensures.cause (rw c.reserve.ensures.refusals at c.tell_unmet-told.ensures.refusals) refl)
