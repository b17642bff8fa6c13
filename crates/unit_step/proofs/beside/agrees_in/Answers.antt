-- What concerns the part is a member of it or read by it.
use Rattle.std.proofs.Common.{◌≡◌, ℕ, inl, inr, sym, subst}
use Rattle.std.specs.Prelude.{Contains}
use Rattle.std.proofs.lemmas.Bool.{OnTrue_from, OnTrue_at}
use Rattle.machine_parts.specs.declared.part.MachinePart.{MachinePart}
use Rattle.switch_paths.specs.Switching.{state_at}
use Rattle.machine_parts.specs.Parts.{Stands}
use Rattle.machine_parts.specs.Stepping.{Concerns}
use Rattle.machine_parts.proofs.PartLemmas.{same_part}
use Rattle.machine_laws.proofs.HeldParts.{taken_member, member_taken}
use Rattle.unit_step.proofs.beside.agrees_in.Goals as goal

pub agrees-requires : goal.agrees-requires
agrees-requires c =
    let part = c.index-parts-k.result in
    let stands : Stands c.args.parts.now c.args.k part = record { inside = c.requires.part; here = sym c.index-parts-k.is } in
    record {
      members = c.requires.seated part stands;
      inside = λ node there. c.requires.inside node (inl (taken_member c.args.parts.now c.args.k part stands node there));
      reads = λ node there. c.requires.inside node (inr (record { part = part; stands = stands; reads = there }));
      counted = c.requires.counted;
    }

pub returns : goal.returns
returns c =
    let part = c.index-parts-k.result in
    let stands : Stands c.args.parts.now c.args.k part = record { inside = c.requires.part; here = sym c.index-parts-k.is } in
    OnTrue_from c.agrees.result
    ((node : ℕ) → Concerns c.args.parts.now c.args.k node → state_at c.args.bad.now node ≡ state_at c.args.good.now node) (λ set node concerns.
    OnTrue_at set c.agrees.ensures node (elim concerns [
      | inl has ↦ inl (member_taken c.args.parts.now c.args.k part stands node has)
      | inr reads ↦
          let same = same_part c.args.parts.now c.args.k reads.part part reads.stands stands in
          inr (subst (λ (p : MachinePart). Contains p.reads.items node) same reads.reads)
    ]))
