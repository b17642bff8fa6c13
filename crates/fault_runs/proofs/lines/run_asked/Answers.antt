-- A line comes to what is left of its command, if it asks for one.
use Rattle.std.proofs.Common.{inl, Ok, IfSome, refl, ap, subst, ◌∙◌}
use Rattle.script_lang.specs.Forms.{IsFormed}
use Rattle.fault_sim.specs.Masks.{masked_reading_by}
use Rattle.fault_runs.proofs.lines.run_asked.Goals as goal

pub run_masked-requires : goal.run_masked-requires
run_masked-requires g c = subst (λ asked. IfSome asked IsFormed) c.in-Some.is c.requires

pub returns-in-Some : goal.returns-in-Some
returns-in-Some g c = λ cut line inside read. c.run_masked.ensures cut line inside (read ∙ ap Ok c.in-Some.is)

pub returns-in-None : goal.returns-in-None
returns-in-None g c = λ cut line inside read.
    let core = c.args.session.now.core in
    inl (record {
      idle = record { inside = inside; nothing = ap (masked_reading_by core.circuit core.vectors c.args.stuck) (read ∙ ap Ok c.in-None.is) };
      keeps = record { same = refl; unheard = refl; unasked = refl };
    })
