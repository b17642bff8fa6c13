-- The node is given its state in what is held.
use Rattle.std.proofs.Common.{◌∙◌, ap, sym, subst}
use Rattle.std.specs.Prelude.{slice_set}
use Rattle.column_stage.specs.Columns.{IsSoundState, letter_in}
use Rattle.fault_stage.specs.Stages.{FaultData, StaysOn, data_of, state_of}
use Rattle.fault_stage.proofs.stage.FaultStage.put.Goals as goal

pub put_held-requires : goal.put_held-requires
put_held-requires c = record {
  well = c.self.invariant;
  sound = subst (λ (stage : FaultData). IsSoundState c.args.graph.now (state_of stage)) (sym c.self.view_is) c.requires.sound;
  inside = c.requires.inside;
  no_rail = c.requires.no_rail;
  letters = c.requires.letters;
}

pub invariant_of-self : goal.invariant_of-self
invariant_of-self c = c.put_held.ensures.well

pub returns-clause-state : goal.returns-clause-state
returns-clause-state c =
    c.put_held.ensures.state
    ∙ ap (λ (stage : FaultData). slice_set (state_of stage) c.args.node (letter_in 0 c.args.letters.now)) c.self.view_is

pub returns-clause-stays : goal.returns-clause-stays
returns-clause-stays c =
    subst (λ (stage : FaultData). StaysOn c.args.graph.now stage (data_of c.put_held.new.held)) c.self.view_is c.put_held.ensures.stays
