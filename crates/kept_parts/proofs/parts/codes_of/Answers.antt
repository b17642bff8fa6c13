-- Each code means the next text.
use Rattle.std.proofs.Common.{◌≡◌, ◌+◌, [], ◌∷◌, ◌++◌, take, sym, ap, ◌∙◌, rules}
use Rattle.std.proofs.lemmas.List.{take_more}
use Rattle.std.proofs.lemmas.Slice.Zip.{all_zipped_more}
use Rattle.group_analysis.specs.Meaning.{MeansText}
use Rattle.kept_parts.proofs.parts.codes_of.Goals as goal

pub loop-text-preserved : goal.loop-text-preserved
loop-text-preserved c =
    let i = c.loop-text.text-index in
    let texts = c.args.texts.now in
    let text = c.text-item.result in
    let grown : take (i + 1) texts ≡ take i texts ++ text ∷ [] =
    take_more texts i text c.loop-text-test.true ∙ ap (λ last. take i texts ++ last ∷ []) (sym c.text-item.is) in
    let means : MeansText text c.in_ok-clone-in-Some.field-0.value = search rules in
    rw (grown, c.in_ok-push-in-Some.ensures.items)
    (all_zipped_more (λ text code. MeansText text code.value) (take i texts) c.loop-text.codes.items text c.in_ok-clone-in-Some.field-0 c.loop-text.invariant means)
