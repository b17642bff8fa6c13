-- Each part is made of the next text.
use Rattle.std.proofs.Common.{◌≡◌, ◌<◌, [], ◌∷◌, ◌++◌, length, map, sym, ap, ◌∙◌, rules, arith}
use Rattle.std.proofs.lemmas.List.{length-map, map-append, length_push}
use Rattle.circuit_texts.specs.Parts.{IsMadeOf}
use Rattle.kept_parts.proofs.PairLemmas.{all_paired_more}
use Rattle.kept_parts.proofs.parts.parts_of.Goals as goal

pub loop-map-preserved : goal.loop-map-preserved
loop-map-preserved c =
    let parts = c.loop-map.parts.items in
    let texts = c.args.texts.now in
    let part = c.in_ok-part_of.field-0 in
    let here : length parts ≡ length (map (λ nodes. nodes.items) c.loop-map.yielded) =
    c.loop-map.invariant.count ∙ sym (length-map c.loop-map.yielded (λ nodes. nodes.items)) in
    let inside : length parts < length texts = omega (arith, ap length c.in-Some.ensures.steps.0) in
    let counted : c.len.result ≡ length parts = omega (arith, c.len.ensures, c.loop-map.parts.ok.0) in
    let stands = rw counted at c.index-texts-len.is in
    let pushed : c.push.new.self.items ≡ parts ++ part ∷ [] = search rules in
    let more = all_paired_more (λ made part. IsMadeOf made.0 made.1 part) texts (map (λ nodes. nodes.items) c.loop-map.yielded) parts
    (length parts) c.index-texts-len.result c.in-Some.map.items part inside here stands c.loop-map.invariant.parts
    c.in_ok-part_of.ensures in
    rw (pushed, length_push parts part, map-append) (record {
      count = omega (arith, length_push c.loop-map.yielded c.in-Some.map);
      left = omega (arith, length_push c.loop-map.yielded c.in-Some.map, ap length c.in-Some.ensures.steps.0);
      parts = more;
    })
