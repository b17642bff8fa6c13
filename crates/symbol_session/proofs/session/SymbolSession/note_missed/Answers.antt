-- Assignment by assignment.
use Rattle.std.proofs.Common.{◌+◌, All, List, drop, sym, subst, take, arith}
use Rattle.std.proofs.lemmas.List.{take_all}
use Rattle.std.proofs.lemmas.List.Elements.{All-drop, All-head}
use Rattle.std.proofs.lemmas.Result.{err_from_is_err_and}
use Rattle.session_meaning.specs.Sessions.{SessionData}
use Rattle.symbol_script.specs.declared.line.Assignment.{Assignment}
use Rattle.symbol_giving.specs.StandIns.{IsGiven}
use Rattle.symbol_session.specs.Missing.{NotesMissed}
use Rattle.symbol_session.specs.Sessions.{maker_of}
use Rattle.symbol_session.proofs.DataLemmas.{keeps_both, keeps_same, stays_same}
use Rattle.symbol_session.proofs.MovedLemmas.{stays_both}
use Rattle.symbol_session.proofs.NotingLemmas.{notes_none, notes_then, take_next}
use Rattle.symbol_session.proofs.session.SymbolSession.note_missed.Goals as goal

pub loop-k-init : goal.loop-k-init
loop-k-init c = record {
  notes = notes_none c.args.self.now;
  stays = stays_same c.args.self.now;
  keeps = keeps_same (maker_of c.args.self.now);
}

pub note_one-requires : goal.note_one-requires
note_one-requires c =
    let first = c.args.self.now.session.core in
    let list = c.args.list.now in
    let given = IsGiven first.circuit first.vectors in
    let left = subst (λ (items : List Assignment). All given items) c.assignment_at-own.ensures (All-drop given c.loop-k.k list c.requires) in
    subst (λ (core : SessionData). IsGiven core.circuit core.vectors c.assignment_at-own.result.now) (sym c.loop-k.invariant.notes.circuit)
    (All-head given c.assignment_at-own.result.now (drop (c.loop-k.k + 1) list) left)

pub returns-in_err-note_one-clause-notes : goal.returns-in_err-note_one-clause-notes
returns-in_err-note_one-clause-notes c = rw (err_from_is_err_and c.from_residual.result c.from_residual.ensures.1).1 tt

pub returns-in_err-note_one-clause-stays : goal.returns-in_err-note_one-clause-stays
returns-in_err-note_one-clause-stays c =
    stays_both c.args.self.now c.loop-k.self c.note_one.new.self c.loop-k.invariant.keeps.count c.loop-k.invariant.stays c.note_one.ensures.stays

pub returns-in_err-note_one-clause-keeps : goal.returns-in_err-note_one-clause-keeps
returns-in_err-note_one-clause-keeps c =
    keeps_both (maker_of c.args.self.now) (maker_of c.loop-k.self) (maker_of c.note_one.new.self) c.loop-k.invariant.keeps c.note_one.ensures.keeps

pub loop-k-preserved : goal.loop-k-preserved
loop-k-preserved c =
    let first = c.args.self.now in
    let now = c.loop-k.self in
    let new = c.note_one.new.self in
    let inv = c.loop-k.invariant in
    record {
      notes = subst (λ (list : List Assignment). NotesMissed first list new) (sym (take_next c.args.list.now c.loop-k.k c.assignment_at-own.result.now c.assignment_at-own.ensures))
          (notes_then first now new inv.keeps.count inv.stays (take c.loop-k.k c.args.list.now) c.assignment_at-own.result.now inv.notes c.in_ok-note_one.ensures.notes);
      stays = stays_both first now new inv.keeps.count inv.stays c.note_one.ensures.stays;
      keeps = keeps_both (maker_of first) (maker_of now) (maker_of new) inv.keeps c.note_one.ensures.keeps;
    }

pub returns-clause-notes : goal.returns-clause-notes
returns-clause-notes c =
    subst (λ (list : List Assignment). NotesMissed c.args.self.now list c.loop-k.self)
    (take_all c.loop-k.k c.args.list.now (omega (arith, c.loop-k-test.false))) c.loop-k.invariant.notes
