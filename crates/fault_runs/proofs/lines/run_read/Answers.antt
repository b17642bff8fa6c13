-- A line comes to what it asks for, or is refused as it was read.
use Rattle.std.proofs.Common.{inl, inr, refl, ap, ◌∙◌, sym}
use Rattle.script_meaning.specs.Runs.{too_long}
use Rattle.script_meaning.proofs.TurnLemmas.{is_inside, is_unread}
use Rattle.fault_sim.specs.Masks.{masked_reading, masked_reading_by}
use Rattle.fault_runs.proofs.LineLemmas.{asked_formed, is_outside}
use Rattle.fault_runs.proofs.lines.run_read.Goals as goal

pub returns-then-eq : goal.returns-then-eq
returns-then-eq g c = λ text read. (
  too_long (is_outside c.args.cut c.args.line.now.number c.eq.result c.eq.ensures c.if-eq.true) refl,
  record { same = refl; unheard = refl; unasked = refl },
)

pub run_asked-requires : goal.run_asked-requires
run_asked-requires g c = asked_formed c.requires.0 c.in-Ok.asked (c.requires.1 ∙ c.in-Ok.is)

pub returns-in-Ok : goal.returns-in-Ok
returns-in-Ok g c = λ text read.
    c.run_asked.ensures c.args.cut (c.args.line.now.number, text) (is_inside c.args.cut c.args.line.now.number c.eq.result c.eq.ensures c.if-eq.false)
    (read ∙ c.in-Ok.is)

pub returns-in-Some : goal.returns-in-Some
returns-in-Some g c = λ text read.
    let core = c.args.session.now.core in (
      is_unread (masked_reading c.args.stuck) c.args.cut core (c.args.line.now.number, text) c.in-Err.fault c.in-Some.code
          (is_inside c.args.cut c.args.line.now.number c.eq.result c.eq.ensures c.if-eq.false)
          (inr (ap (masked_reading_by core.circuit core.vectors c.args.stuck) (read ∙ c.in-Err.is))) (sym c.script_code.ensures ∙ c.in-Some.is),
      record { same = refl; unheard = refl; unasked = refl },
    )

pub returns-in-None : goal.returns-in-None
returns-in-None g c = λ text read. inl refl
