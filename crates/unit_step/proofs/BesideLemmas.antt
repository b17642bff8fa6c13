-- Parts that are apart, by the parts and by the lists of owners and readers.
use Rattle.std.proofs.Common.{ℕ, inl, inr, List}
use Rattle.std.specs.Prelude.{Bool, Option}
use Rattle.smallvec.specs.SmallVec.{SmallVec}
use Rattle.ternary.specs.declared.tern.Tern.{Tern}
use Rattle.machine_parts.specs.declared.part.MachinePart.{MachinePart}
use Rattle.machine_parts.specs.Evaluating.{Rooms}
use Rattle.machine_parts.specs.Running.{AreOwners, IsRunnable}
use Rattle.run_beside.specs.Noticing.{KeepsApart}
use Rattle.unit_step.specs.Beside.{KeepsPartsApart}

module _ (parts : List MachinePart) (marks waiting : List Bool) (count : ℕ) (readers : List (SmallVec ℕ)) (room : Rooms)
    (runs : IsRunnable parts marks waiting count readers room) (owners : List (Option ℕ)) (owned : AreOwners parts count owners) (apart : List Bool)
    (good bad : List Tern) where
  -- what the lists say, the parts say
  pub parts_apart : KeepsApart owners readers apart good bad → KeepsPartsApart parts apart good bad
  parts_apart kept node differs k concerns =
      kept node differs k (elim concerns [ inl has ↦ inl (owned.owner node k has) | inr reads ↦ inr (runs.readers node k reads) ])

  -- and the other way round
  pub tables_apart : KeepsPartsApart parts apart good bad → KeepsApart owners readers apart good bad
  tables_apart kept node differs k concerns =
      kept node differs k (elim concerns [ inl owner ↦ inl (owned.member node k owner) | inr listed ↦ inr (runs.reads node k listed) ])
