-- The nodes before this one have the states that were kept.
use Rattle.std.proofs.Common.{◌≡◌, ◌++◌, List, take, drop}
use Rattle.group_text.specs.Texts.{GroupTextData}
use Rattle.column_stage.specs.Acts.{LeadsBy}
use Rattle.column_stage.specs.Columns.{IsSoundState}
use Rattle.session_meaning.specs.Saves.{back_to}
use Rattle.session_meaning.specs.Stages.{PlacesOther}
use Rattle.cosmos_session.proofs.saving.give_back.Given as goal

abbrev pub invariant-loop-node : goal.invariant-loop-node
invariant-loop-node g l = record {
  one : g.M.Columns.columns l.stage ≡ 1;
  state : g.M.Columns.states l.stage 0 ≡ take l.node l.kept ++ drop l.node (g.M.Columns.states l.fn.stage 0);
  sound : IsSoundState l.graph (g.M.Columns.states l.stage 0);
  last : g.M.Columns.last l.stage ≡ g.M.Columns.last l.fn.stage;
  serves : (texts : List GroupTextData) → g.M.Columns.serves l.fn.stage l.graph texts → g.M.Columns.serves l.stage l.graph texts;
  did : LeadsBy g.M.Columns.did (PlacesOther l.graph (g.M.Columns.states l.fn.stage 0) (back_to l.kept (g.M.Columns.states l.fn.stage 0))) l.fn.stage l.stage;
}
