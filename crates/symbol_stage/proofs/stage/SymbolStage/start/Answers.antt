-- Gnd's rails are those of 0, Vdd's those of 1, and every other node has both.
use Rattle.std.proofs.Common.{◌≡◌, replicate, sym, ap, subst, ◌∙◌, rules}
use Rattle.std.proofs.lemmas.List.{length-replicate, length-set}
use Rattle.std.proofs.lemmas.List.Elements.{All-replicate, All-set}
use Rattle.decision_graph.specs.declared.vertex.Function.{Function}
use Rattle.truth_makers.specs.Makers.{columns_in, function_holds, IsFunctionOf}
use Rattle.truth_makers.specs.declared.symbols.Symbols.{Symbols}
use Rattle.truth_machine.specs.Machines.{TruthData}
use Rattle.truth_machine.specs.Gears.{IsEmptyGear}
use Rattle.symbol_stage.proofs.ColumnLemmas.{AreColumns-start, states-start}
use Rattle.symbol_stage.proofs.stage.SymbolStage.start.Goals as goal

pub still-machine-requires : goal.still-machine-requires
still-machine-requires c =
    let never = c.constant-never.result in
    let always = c.constant-always.result in
    let symbols = c.args.symbols in
    let has = IsFunctionOf symbols in
    let hi : c.in_ok-hi.hi.items ≡ replicate c.args.nodes always = search rules in
    let lo : c.in_ok-lo.lo.items ≡ replicate c.args.nodes always = search rules in
    let counted = length-set (replicate c.args.nodes always) 0 never ∙ length-replicate c.args.nodes always in
    rw (hi, lo) (record {
      gear = subst (λ n. IsEmptyGear has n c.in_ok-gear.gear) (sym counted) c.in_ok-gear.ensures;
      columns = AreColumns-start (function_holds symbols) never always (columns_in symbols) c.args.nodes c.requires.railed c.constant-never.ensures.value
          c.constant-always.ensures.value;
      high_has = All-set has (replicate c.args.nodes always) 0 never c.constant-never.ensures.has
          (All-replicate has c.args.nodes always c.constant-always.ensures.has);
      low_has = All-set has (replicate c.args.nodes always) 1 never c.constant-never.ensures.has
          (All-replicate has c.args.nodes always c.constant-always.ensures.has);
    })

pub returns-clause-maker : goal.returns-clause-maker
returns-clause-maker c = ap (λ (d : TruthData Function Symbols). d.maker) c.still-machine.ensures

pub returns-clause-states : goal.returns-clause-states
returns-clause-states c =
    let never = c.constant-never.result in
    let always = c.constant-always.result in
    let symbols = c.args.symbols in
    let hi : c.in_ok-hi.hi.items ≡ replicate c.args.nodes always = search rules in
    let lo : c.in_ok-lo.lo.items ≡ replicate c.args.nodes always = search rules in
    rw (c.still-machine.ensures, hi, lo)
    (states-start (function_holds symbols) never always (columns_in symbols) c.args.nodes c.requires.railed c.constant-never.ensures.value c.constant-always.ensures.value)
