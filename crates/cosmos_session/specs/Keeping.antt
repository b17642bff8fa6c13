-- A stage that is given other states is as it was besides.
use Rattle.std.specs.Prelude.{◌≡◌, ℕ, List}
use Rattle.ternary.specs.declared.tern.Tern.{Tern}
use Rattle.switch_paths.specs.Graphs.{GraphData}
use Rattle.group_text.specs.Texts.{GroupTextData}
use Rattle.column_stage.specs.Columns.{AreSound}

-- it has as many columns, whose states are sound, and used the same texts last; and it serves and fits the graph if it did
pub record KeepsStage {M : Type 0} (columns : M → ℕ) (states : M → ℕ → List Tern) (last : M → List GroupTextData)
    (serves : M → GraphData → List GroupTextData → Type 0) (fits : M → GraphData → Type 0) (g : GraphData) (old new : M) : Type 0 where
  pub count : columns new ≡ columns old
  pub sound : AreSound g (columns new) (states new)
  pub texts : last new ≡ last old
  pub serving : (kept : List GroupTextData) → serves old g kept → serves new g kept
  pub fitting : fits old g → fits new g
