-- The set is empty, and then the parts come in.
use Rattle.std.proofs.Common.{◌≡◌, ℕ, ◌<◌, List, false, length, sym, ap, subst, ◌∙◌}
use Rattle.std.specs.Prelude.{Contains}
use Rattle.std.proofs.lemmas.List.{length-replicate}
use Rattle.machine_parts.specs.Marking.{MarksAll}
use Rattle.beside_run.proofs.DifferingLemmas.{first_apart_are}
use Rattle.beside_run.proofs.differing.first_apart.Goals as goal

pub put_all-requires : goal.put_all-requires
put_all-requires c = λ k (i, inside, here).
    let counted : length c.in_ok-apart.apart.inside ≡ length c.args.touched.now.inside =
    ap length c.in_ok-apart.ensures.inside ∙ (length-replicate c.parts.result false ∙ (c.parts.ensures ∙ sym c.requires.touched)) in
    subst (λ n. k < n) (sym counted) (subst (λ n. n < length c.args.touched.now.inside) here (c.nodes_in.ensures.within i k inside))

pub put_stale-requires : goal.put_stale-requires
put_stale-requires c =
    c.put_all.ensures.count ∙ (ap length c.in_ok-apart.ensures.inside ∙ (length-replicate c.parts.result false ∙ c.parts.ensures))

pub put_differing-requires : goal.put_differing-requires
put_differing-requires c = record {
  counted = c.requires.counted;
  apart = c.put_stale.ensures.count
      ∙ (c.put_all.ensures.count ∙ (ap length c.in_ok-apart.ensures.inside ∙ (length-replicate c.parts.result false ∙ c.parts.ensures)));
}

pub returns : goal.returns
returns c =
    first_apart_are c.args.machine.now c.args.touched.now c.args.good.now c.parts.result c.in_ok-apart.apart.inside c.put_all.new.apart.inside
    c.put_stale.new.set.inside c.put_differing.new.apart.inside c.in_ok-apart.ensures.inside c.requires.counted
    c.lists_what_is_in_it.ensures.listed c.lists_what_is_in_it.ensures.only
    (subst (λ (list : List ℕ). MarksAll (Contains list) c.in_ok-apart.apart.inside c.put_all.new.apart.inside) c.nodes_in.ensures.value c.put_all.ensures)
    c.put_stale.ensures c.put_differing.ensures
    (ap length c.in_ok-apart.ensures.inside ∙ (length-replicate c.parts.result false ∙ c.parts.ensures))
