-- Each chosen group before the next one has its text; the first that has none is too large.
use Rattle.std.proofs.Common.{◌≡◌, ◌+◌, All, [], ◌∷◌, ◌++◌, take, true, None, ap, subst, sym, ◌∙◌, rules}
use Rattle.std.specs.Result.{is_ok}
use Rattle.std.proofs.lemmas.List.Elements.{All-push}
use Rattle.channel_groups.proofs.HeldLemmas.{IsGroup-found}
use Rattle.group_text.specs.Texts.{local_nodes, text_of_group}
use Rattle.circuit_texts.specs.Sizes.{fault_in}
use Rattle.circuit_texts.specs.Choosing.{chosen}
use Rattle.circuit_texts.proofs.ChosenLemmas.{chosen-more, refused_at, mapped_chosen, map_chosen}
use Rattle.circuit_texts.proofs.chosen.texts_at.Goals as goal

pub text_or_fault-requires : goal.text_or_fault-requires
text_or_fault-requires c =
    IsGroup-found c.args.graph.now c.args.groups.now.groups _ c.group.result.now c.requires.groups.each c.group.ensures

pub returns-in_err-text-clause-too_large : goal.returns-in_err-text-clause-too_large
returns-in_err-text-clause-too_large c =
    let told = refused_at 0 c.args.groups.now.groups c.args.ids.now c.loop-id.id-index _ c.group.result.now c.in_err-text.field-0.0
    c.loop-id-test.true c.group.ensures c.loop-id.invariant.fits c.in_err-text.ensures.too_large in
    search rules

pub loop-id-preserved : goal.loop-id-preserved
loop-id-preserved c =
    let group = c.group.result.now in
    let graph = c.args.graph.now in
    let front = chosen c.args.groups.now.groups (take c.loop-id.id-index c.args.ids.now) in
    let all = chosen c.args.groups.now.groups (take (c.loop-id.id-index + 1) c.args.ids.now) in
    let grown : all ≡ front ++ group ∷ [] =
    chosen-more c.args.groups.now.groups c.args.ids.now c.loop-id.id-index _ group c.loop-id-test.true c.group.ensures in
    let ok : is_ok c.push.result ≡ true = sym c.map_err.ensures.variant ∙ ap is_ok c.in_ok-map_err.was in
    let pushed : c.push.new.self.items ≡ c.loop-id.texts.items ++ c.in_ok-text.text ∷ [] = rw ok at c.push.ensures.items in
    let ok_too : is_ok c.push-in-loop-id.result ≡ true = sym c.map_err-in-loop-id.ensures.variant ∙ ap is_ok c.in_ok-map_err-2.was in
    let pushed_too : c.push-in-loop-id.new.self.items ≡ c.loop-id.maps.items ++ c.in_ok-text.nodes ∷ [] = rw ok_too at c.push-in-loop-id.ensures.items in
    record {
      texts = rw pushed (mapped_chosen (text_of_group graph) front all c.loop-id.texts.items c.in_ok-text.text group grown c.loop-id.invariant.texts
          c.in_ok-text.ensures.text);
      maps = rw pushed_too (map_chosen (λ nodes. nodes.items) (local_nodes graph) front all c.loop-id.maps.items c.in_ok-text.nodes group grown
          c.loop-id.invariant.maps c.in_ok-text.ensures.nodes);
      fits = subst (All (λ one. fault_in one ≡ None)) (sym grown)
          (All-push (λ one. fault_in one ≡ None) front group c.loop-id.invariant.fits c.in_ok-text.ensures.fits);
    }
