-- There is a mark for each part, and none is set.
use Rattle.std.proofs.Common.{false, length, sym, ap, subst, ◌∙◌}
use Rattle.std.proofs.lemmas.List.{length-replicate}
use Rattle.machine_parts.proofs.MakingLemmas.{none_marked}
use Rattle.vicinity.specs.NodeSets.{IsIn}
use Rattle.beside_run.proofs.touching.later_parts.Goals as goal

pub put_later-requires : goal.put_later-requires
put_later-requires c = record {
  counted = ap length c.in_ok-set.ensures.inside ∙ (length-replicate c.parts.result false ∙ c.parts.ensures);
  empty = λ k. subst (λ inside. ¬ IsIn inside k) (sym c.in_ok-set.ensures.inside) (none_marked c.parts.result k);
}
