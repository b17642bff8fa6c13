-- One part that waits more.
use Rattle.std.proofs.Common.{◌+◌, ◌++◌, [], ◌∷◌, true, false, replicate, sym, ap, ◌∙◌, append-nil, append_assoc, arith}
use Rattle.std.proofs.lemmas.List.{replicate_more}
use Rattle.machine_parts.specs.Marking.{AgendaData}
use Rattle.part_steps.proofs.agenda.Agenda.with_stale.Goals as goal

pub loop-part-init : goal.loop-part-init
loop-part-init c = record {
  marks = c.in_ok-agenda.ensures.marks ∙ ap (λ n. replicate n true) (omega arith);
  waiting = c.in_ok-agenda.ensures.waiting ∙ sym (append-nil (replicate c.args.ready false));
}

pub loop-part-preserved : goal.loop-part-preserved
loop-part-preserved c =
    let grown = c.in_ok-wait_more.ensures.ok in
    let ready = c.args.ready in
    let i = c.loop-part._part in
    record {
      marks = ap (λ (agenda : AgendaData). agenda.marks) grown
          ∙ (ap (λ marks. marks ++ true ∷ []) c.loop-part.invariant.marks ∙ (replicate_more (ready + i) true ∙ ap (λ n. replicate n true) (omega arith)));
      waiting = ap (λ (agenda : AgendaData). agenda.waiting) grown
          ∙ (ap (λ waiting. waiting ++ true ∷ []) c.loop-part.invariant.waiting
          ∙ (append_assoc (replicate ready false) (replicate i true) (true ∷ []) ∙ ap (λ rest. replicate ready false ++ rest) (replicate_more i true)));
    }
