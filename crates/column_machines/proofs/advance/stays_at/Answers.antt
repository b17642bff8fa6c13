-- The part with this number is stale if it has members and no code.
use Rattle.std.proofs.Common.{◌≡◌, ◌<◌, None, inl, inr, sym, subst}
use Rattle.std.specs.Prelude.{slice_index_or}
use Rattle.machine_parts.specs.declared.part.MachinePart.{MachinePart}
use Rattle.machine_parts.specs.Parts.{Stands}
use Rattle.machine_parts.proofs.PartLemmas.{same_part}
use Rattle.column_machines.proofs.advance.stays_at.Goals as goal

pub returns : goal.returns
returns c =
    let parts = c.args.parts.now in
    let k = c.args.k in
    let part = c.index-parts-k.result in
    let here : slice_index_or parts k part ≡ part = sym c.index-parts-k.is in
    let stands : Stands parts k part = record { inside = c.requires; here = here } in (
      λ is.
          elim (c.stays_on.ensures.0 is) [
            | inl joins ↦ inl joins
            | inr bare ↦ inr (record { part = part; stands = stands; some = bare.some; none = bare.none })
          ],
      λ either.
          elim either [
            | inl joins ↦ c.stays_on.ensures.1 (inl joins)
            | inr stale ↦
                let same = same_part parts k stale.part part stale.stands stands in
                c.stays_on.ensures.1 (inr (record {
                  some = subst (λ (one : MachinePart). 0 < one.members) same stale.some;
                  none = subst (λ (one : MachinePart). one.code ≡ None) same stale.none;
                }))
          ],
    )
