-- All parts are marked and listed.
use Rattle.std.proofs.Common.{rules, ◌≡◌, true, false, arith}
use Rattle.std.specs.Prelude.{replicate}
use Rattle.machine_parts.proofs.MakingLemmas.{IsAgenda-all}
use Rattle.part_steps.proofs.agenda.Agenda.all.Goals as goal

pub invariant_of-result : goal.invariant_of-result
invariant_of-result c =
    let marks : c.in_ok-vec.field-0.items ≡ replicate c.args.parts true = search rules in
    let waits : c.in_ok-vec-2.field-0.items ≡ replicate c.args.parts false = search rules in
    rw (marks, c.in_ok-work.ensures.numbers, waits, c.new.ensures.items) (IsAgenda-all c.args.parts _ (omega (arith, c.in_ok-work.ensures.room)))
