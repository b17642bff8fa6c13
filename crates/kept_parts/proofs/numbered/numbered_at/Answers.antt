-- Each chosen group before the next one has its text; the first that has none is too large.
use Rattle.std.proofs.Common.{◌≡◌, ◌+◌, All, [], ◌∷◌, ◌++◌, map, take, true, None, Some, refl, ap, subst, sym, ◌∙◌}
use Rattle.std.specs.Result.{is_ok}
use Rattle.std.proofs.lemmas.Result.{err_from_is_err_and}
use Rattle.std.proofs.lemmas.List.{map-append}
use Rattle.std.proofs.lemmas.List.Elements.{All-push}
use Rattle.channel_groups.proofs.HeldLemmas.{IsGroup-found}
use Rattle.group_text.specs.FirstTexts.{first_texts, new_texts}
use Rattle.group_text.specs.Texts.{local_nodes, text_of_group}
use Rattle.circuit_texts.specs.Sizes.{fault_in}
use Rattle.circuit_texts.specs.Choosing.{chosen}
use Rattle.circuit_texts.proofs.ChosenLemmas.{chosen-more, refused_at, mapped_chosen, map_chosen}
use Rattle.kept_parts.proofs.NumberLemmas.{first_texts-more}
use Rattle.kept_parts.proofs.numbered.numbered_at.Goals as goal

pub text_or_fault-requires : goal.text_or_fault-requires
text_or_fault-requires c =
    IsGroup-found c.args.graph.now c.args.groups.now.groups _ c.group.result.now c.requires.groups.each c.group.ensures

pub returns-in_err-text-clause-too_large : goal.returns-in_err-text-clause-too_large
returns-in_err-text-clause-too_large c =
    let told = err_from_is_err_and c.from_residual-in_err-text.result c.from_residual-in_err-text.ensures.1 in
    rw (told.1, told.2) (refused_at 0 c.args.groups.now.groups c.args.ids.now c.loop-id.id-index _ c.group.result.now c.in_err-text.field-0.0
    c.loop-id-test.true c.group.ensures c.loop-id.invariant.fits c.in_err-text.ensures.too_large)

pub loop-id-preserved : goal.loop-id-preserved
loop-id-preserved c =
    let group = c.group.result.now in
    let text = c.in_ok-text.text in
    let nodes = c.in_ok-text.nodes in
    let graph = c.args.graph.now in
    let chosen_front = chosen c.args.groups.now.groups (take c.loop-id.id-index c.args.ids.now) in
    let all = chosen c.args.groups.now.groups (take (c.loop-id.id-index + 1) c.args.ids.now) in
    let grown : all ≡ chosen_front ++ group ∷ [] =
    chosen-more c.args.groups.now.groups c.args.ids.now c.loop-id.id-index _ group c.loop-id-test.true c.group.ensures in
    let front = map (text_of_group graph) chosen_front in
    let more = mapped_chosen (text_of_group graph) chosen_front all front text group grown refl c.in_ok-text.ensures.text in
    let ok : is_ok c.push.result ≡ true = sym c.map_err.ensures.variant ∙ ap is_ok c.in_ok-map_err.was in
    let pushed : c.push.new.self.items ≡ c.loop-id.maps.items ++ nodes ∷ [] = rw ok at c.push.ensures.items in
    record {
      texts = c.in_ok-push_text.ensures.texts
          ∙ (ap (λ texts. texts ++ Some text ∷ []) c.loop-id.invariant.texts
          ∙ (sym (map-append Some front (text ∷ [])) ∙ ap (map Some) more));
      known = c.in_ok-push_text.ensures.known
          ∙ (ap (λ known. known ++ new_texts known (text ∷ [])) c.loop-id.invariant.known
          ∙ (first_texts-more front text ∙ ap first_texts more));
      maps = rw pushed (map_chosen (λ nodes. nodes.items) (local_nodes graph) chosen_front all c.loop-id.maps.items nodes group grown
          c.loop-id.invariant.maps c.in_ok-text.ensures.nodes);
      fits = subst (All (λ one. fault_in one ≡ None)) (sym grown)
          (All-push (λ one. fault_in one ≡ None) chosen_front group c.loop-id.invariant.fits c.in_ok-text.ensures.fits);
    }
