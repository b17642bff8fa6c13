-- All that was made is of the machine's parts.
use Rattle.std.proofs.Common.{◌≡◌, true, length, refl, sym, ap, ◌∙◌, arith}
use Rattle.std.specs.Prelude.{replicate}
use Rattle.column_machines.specs.Evaluating.{rooms}
use Rattle.column_machines.proofs.MakingLemmas.{IsWordMachine-made}
use Rattle.column_machines.proofs.machine.WordMachine.with_marks.Goals as goal

pub invariant_of-result : goal.invariant_of-result
invariant_of-result c =
    let machine = c.args.machine in
    let hi = c.args.hi.now in
    let lo = c.args.lo.now in
    let room = rooms c.in_ok-workspace.workspace in
    let marks : c.in_ok-agenda.agenda ≡ replicate (length machine.parts) true = c.in_ok-agenda.ensures ∙ ap (λ n. replicate n true) c.parts-parts.ensures in
    let outs = c.in_ok-workspace.ensures.highs in (
      rw (marks, c.in_ok-highs.ensures.items, c.in_ok-lows.ensures.items)
          (IsWordMachine-made c.args.columns c.used_columns.result machine c.most_members-members.result hi lo room c.requires.few c.used_columns.ensures c.requires.nodes
          c.most_members-members.ensures (omega (arith, outs)) c.in_ok-workspace.ensures.changes (omega (arith, c.in_ok-workspace.ensures.parts, c.parts-parts.ensures)) c.requires.columns_are),
      c.in_ok-workspace.ensures.lows ∙ sym outs,
    )

pub returns : goal.returns
returns c = record {
  columns_are = refl;
  machine_is = refl;
  marks_are = c.in_ok-agenda.ensures ∙ ap (λ n. replicate n true) c.parts-parts.ensures;
  highs = c.in_ok-highs.ensures.items;
  lows = c.in_ok-lows.ensures.items;
}
