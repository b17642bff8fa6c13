-- The part that was read is the one that stands there.
use Rattle.std.proofs.Common.{sym, ap, ◌∙◌}
use Rattle.machine_parts.specs.declared.part.MachinePart.{MachinePart}
use Rattle.machine_parts.specs.Parts.{Stands}
use Rattle.machine_parts.proofs.PartLemmas.{same_part}
use Rattle.unit_step.proofs.among.is_coded_in.Goals as goal

pub returns : goal.returns
returns c = λ part stands none.
    let there : Stands c.args.parts.now c.args.k c.index-parts-k.result = record { inside = c.requires; here = sym c.index-parts-k.is } in
    let same = same_part c.args.parts.now c.args.k c.index-parts-k.result part there stands in
    c.has_code.ensures (ap (λ (p : MachinePart). p.code) same ∙ none)
