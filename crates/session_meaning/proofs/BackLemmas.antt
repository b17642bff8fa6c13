-- States that come back: the nodes whose states differ are placed, one after the other.
use Rattle.std.proofs.Common.{◌≢◌, ℕ, List, [], ◌∷◌, inl, inr, refl, sym, subst}
use Rattle.ternary.specs.declared.tern.Tern.{Tern}
use Rattle.switch_paths.specs.Graphs.{GraphData}
use Rattle.switch_paths.specs.Switching.{state_at}
use Rattle.column_stage.specs.Acts.{Act, Placed, LeadsBy}
use Rattle.column_stage.proofs.LeadingLemmas.{leads_by_both, leads_by_one}
use Rattle.session_meaning.specs.Stages.{GivesOther, PlacesOther}

-- a node that had one state was given another, or the same
pub other_back : {M : Type 0} (did : Act → M → M → Type 0) (g : GraphData) (before after : List Tern) (node : ℕ) (value was : Tern) (old mid new : M) →
    (value ≢ was → state_at before node ≢ state_at after node) → LeadsBy did (PlacesOther g before after) old mid →
    GivesOther did g node value was mid new → LeadsBy did (PlacesOther g before after) old new
other_back {M} did g before after node value was old mid new differs so_far (inl (is, same)) =
    subst (λ (stage : M). LeadsBy did (PlacesOther g before after) old stage) (sym same) so_far
other_back did g before after node value was old mid new differs so_far (inr (other, done)) =
    leads_by_both did (PlacesOther g before after) old mid new so_far
    (leads_by_one did (PlacesOther g before after) (Placed g node (value ∷ [])) mid new
    (record { node = node; letters = value ∷ []; differs = differs other; is = refl }) done)
