-- Nodes that are placed keep a state sound.
use Rattle.std.proofs.Common.{◌≡◌, ℕ, ◌≤◌, List, sym, subst, ◌∙◌}
use Rattle.std.specs.Prelude.{slice_set}
use Rattle.std.proofs.lemmas.List.{length-set}
use Rattle.ternary.specs.declared.tern.Tern.{Tern}
use Rattle.switch_paths.specs.declared.TheConstants.{RAILS}
use Rattle.switch_paths.specs.Graphs.{GraphData}
use Rattle.column_stage.specs.Columns.{IsSoundState}
use Rattle.session_meaning.proofs.StateLemmas.{sound-set}

-- one node past the rails
pub sound_put : (g : GraphData) (node : ℕ) (value : Tern) (old new : List Tern) → RAILS ≤ node → new ≡ slice_set old node value → IsSoundState g old →
    IsSoundState g new
sound_put g node value old new past set sound =
    subst (IsSoundState g) (sym set)
    (record { counted = length-set old node value ∙ sound.counted; sound = sound-set old node value past sound.sound })
