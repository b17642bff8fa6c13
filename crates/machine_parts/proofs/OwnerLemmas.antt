-- The part that owns a node has it as a member.
use Rattle.std.proofs.Common.{◌≡◌, ℕ, List, Option, None, Some, sym, ap, subst, ◌∙◌}
use Rattle.std.specs.Prelude.{slice_index_or}
use Rattle.machine_parts.specs.declared.part.MachinePart.{MachinePart}
use Rattle.machine_parts.specs.Parts.{HasMember}
use Rattle.machine_parts.specs.Running.{AreOwners}

-- the part that is found at a node has it as a member
pub owner_has : (parts now : List MachinePart) (count : ℕ) (owners read : List (Option ℕ)) → AreOwners parts count owners →
    parts ≡ now → read ≡ owners →
    (node k : ℕ) → Some k ≡ slice_index_or read node None → HasMember now k node
owner_has parts now count owners read own same is node k found =
    subst (λ list. HasMember list k node) same (own.member node k (ap (λ list. slice_index_or list node None) (sym is) ∙ sym found))

-- and where none is found none has it
pub no_owner : (parts now : List MachinePart) (count : ℕ) (owners read : List (Option ℕ)) → AreOwners parts count owners →
    parts ≡ now → read ≡ owners →
    (node : ℕ) → None ≡ slice_index_or read node None → (k : ℕ) → ¬ HasMember now k node
no_owner parts now count owners read own same is node none k has =
    let both : None ≡ Some k = none ∙ (ap (λ list. slice_index_or list node None) is
    ∙ own.owner node k (subst (λ list. HasMember list k node) (sym same) has)) in
    absurd cc
