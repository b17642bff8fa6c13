use Rattle.std.proofs.Common.{◌≡◌, ◌-◌, ◌∷◌, replicate, set, rules, arith}
use Rattle.ternary.specs.declared.tern.Tern.TheVariants.{Zero, One, Unk}
use Rattle.column_machine_stage.proofs.ColumnLemmas.{AreColumns-states, AreRailsIn-start, column_is}
use Rattle.column_machine_stage.proofs.stage.ColumnMachineStage.start.Goals as goal

pub invariant_of-result : goal.invariant_of-result
invariant_of-result c =
    let hi : c.in_ok-hi.hi.items ≡ replicate c.args.nodes 18446744073709551615 = search rules in
    let lo : c.in_ok-lo.lo.items ≡ replicate c.args.nodes 18446744073709551615 = search rules in
    rw (hi, lo) (record {
      some = c.requires.some;
      few = c.requires.few;
      columns_are = AreColumns-states c.args.columns (set (replicate c.args.nodes 18446744073709551615) 0 0) (set (replicate c.args.nodes 18446744073709551615) 1 0)
          (λ column. Zero ∷ One ∷ replicate (c.args.nodes - 2) Unk) c.requires.some
          (λ column inside. AreRailsIn-start column c.args.nodes (omega (arith, inside)) c.requires.railed);
      same = tt;
    })

pub returns-clause-states : goal.returns-clause-states
returns-clause-states c = λ column inside.
    let hi : c.in_ok-hi.hi.items ≡ replicate c.args.nodes 18446744073709551615 = search rules in
    let lo : c.in_ok-lo.lo.items ≡ replicate c.args.nodes 18446744073709551615 = search rules in
    rw (hi, lo) (column_is column _ _ (Zero ∷ One ∷ replicate (c.args.nodes - 2) Unk) (AreRailsIn-start column c.args.nodes (omega (arith, inside)) c.requires.railed))

-- without a machine it serves any graph
pub returns-clause-serves : goal.returns-clause-serves
returns-clause-serves c = λ graph kept. tt
