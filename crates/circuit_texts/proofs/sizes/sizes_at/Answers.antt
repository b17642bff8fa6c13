-- Each chosen group before the next one is put by its size; the first that is refused is told.
use Rattle.std.proofs.Common.{◌≡◌, ◌+◌, All, [], ◌∷◌, ◌++◌, take, None, subst, sym, rules}
use Rattle.std.specs.Prelude.{not}
use Rattle.std.proofs.lemmas.List.Elements.{All-push}
use Rattle.circuit_texts.specs.Sizes.{refused_in}
use Rattle.circuit_texts.specs.Choosing.{chosen}
use Rattle.circuit_texts.specs.Told.{has_text}
use Rattle.circuit_texts.proofs.ChosenLemmas.{chosen-more, refused_at}
use Rattle.circuit_texts.proofs.ToldLemmas.{some-next, ids-next}
use Rattle.circuit_texts.proofs.sizes.sizes_at.Goals as goal

pub returns-in_err-put_by_size-clause-refused : goal.returns-in_err-put_by_size-clause-refused
returns-in_err-put_by_size-clause-refused c =
    let told = refused_at c.args.large c.args.groups.now.groups c.args.ids.now c.loop-id.id-index _ c.group.result.now c.in_err-put_by_size.field-0.0
    c.loop-id-test.true c.group.ensures c.loop-id.invariant.fits c.in_err-put_by_size.ensures.refused in
    search rules

pub loop-id-preserved : goal.loop-id-preserved
loop-id-preserved c =
    let groups = c.args.groups.now.groups in
    let group = c.group.result.now in
    let front = chosen groups (take c.loop-id.id-index c.args.ids.now) in
    let all = chosen groups (take (c.loop-id.id-index + 1) c.args.ids.now) in
    let grown : all ≡ front ++ group ∷ [] = chosen-more groups c.args.ids.now c.loop-id.id-index _ group c.loop-id-test.true c.group.ensures in
    let put = c.in_ok-put_by_size.ensures in
    record {
      told = some-next groups has_text front all c.loop-id.sizes.told.items c.put_by_size.new.sizes.told.items _ group c.group.ensures grown
          c.loop-id.invariant.told put.told;
      large = some-next groups (λ one. not (has_text one)) front all c.loop-id.sizes.large.items c.put_by_size.new.sizes.large.items _ group c.group.ensures grown
          c.loop-id.invariant.large put.large;
      told_ids = ids-next groups has_text c.loop-id.sizes.told.items c.put_by_size.new.sizes.told.items _ group c.group.ensures c.loop-id.invariant.told_ids put.told;
      large_ids = ids-next groups (λ one. not (has_text one)) c.loop-id.sizes.large.items c.put_by_size.new.sizes.large.items _ group c.group.ensures
          c.loop-id.invariant.large_ids put.large;
      fits = subst (All (λ one. refused_in c.args.large one ≡ None)) (sym grown)
          (All-push (λ one. refused_in c.args.large one ≡ None) front group c.loop-id.invariant.fits put.fits);
    }
