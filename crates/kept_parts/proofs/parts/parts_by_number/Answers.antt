-- Each part is made of the text with the next number.
use Rattle.std.proofs.Common.{◌≡◌, ◌<◌, [], ◌∷◌, ◌++◌, length, map, Some, None, inl, inr, refl, sym, ap, subst, ◌∙◌, rules, arith}
use Rattle.std.specs.Prelude.{slice_get, slice_index_or, option_map}
use Rattle.std.proofs.lemmas.List.{length-map, map-append, length_push}
use Rattle.std.proofs.lemmas.Option.{same_Some, slice_get_within, slice_get-map, slice_get-get_or, slice_get_read, get_or_from_slice_get}
use Rattle.std.proofs.lemmas.Slice.Zip.{AllZip-long}
use Rattle.group_analysis.specs.Meaning.{MeansText}
use Rattle.straight_code.specs.declared.part.Part.{Part}
use Rattle.circuit_texts.specs.Parts.{IsMadeOf}
use Rattle.circuit_texts.proofs.PairedLists.{partner_second}
use Rattle.list_facts.proofs.PlaceLemmas.{pushed_at}
use Rattle.kept_parts.proofs.PairLemmas.{all_paired_more}
use Rattle.kept_parts.proofs.NumberLemmas.{text_of_number}
use Rattle.kept_parts.proofs.parts.parts_by_number.Goals as goal

pub index-requires : goal.index-requires
index-requires c =
    let known = c.known-known.result.now in
    let codes = c.in_ok-codes.codes in
    let counted = AllZip-long (λ text code. MeansText text code.value) known codes.items c.in_ok-codes.ensures in
    omega (arith, c.in-Some-number_of.ensures.known, ap length c.known-known.ensures, counted, codes.ok.0)

pub part_with-requires : goal.part_with-requires
part_with-requires c =
    let known = c.known-known.result.now in
    let codes = c.in_ok-codes.codes in
    let number = c.in-Some-number_of.number in
    let text = c.index-known-number.result in
    let inside : number < length known = omega (arith, c.in-Some-number_of.ensures.known, ap length c.known-known.ensures) in
    let stands : slice_get known number ≡ Some text = slice_get_read known (length known) number text refl inside c.index-known-number.is in
    let (code, at, means) = partner_second (λ text code. MeansText text code.value) known codes.items number text c.in_ok-codes.ensures stands in
    let here = c.index.ensures ∙ get_or_from_slice_get codes.items number code c.index.result.now at in
    rw here means

pub loop-map-preserved : goal.loop-map-preserved
loop-map-preserved c =
    let uses = c.args.uses.now in
    let known = c.known-known.result.now in
    let number = c.in-Some-number_of.number in
    let text = c.index-known-number.result in
    let parts = c.loop-map.parts.items in
    let nodes = map (λ nodes. nodes.items) c.loop-map.yielded in
    let part = c.in_ok-part-in-Some-number_of.part in
    let inside : number < length known = omega (arith, c.in-Some-number_of.ensures.known, ap length c.known-known.ensures) in
    let read : slice_get known number ≡ Some text = slice_get_read known (length known) number text refl inside c.index-known-number.is in
    let stands : slice_get uses.known number ≡ Some text = subst (λ texts. slice_get texts number ≡ Some text) c.known-known.ensures read in
    let counted_codes = AllZip-long (λ text code. MeansText text code.value) known c.in_ok-codes.codes.items c.in_ok-codes.ensures in
    let below : length parts < length uses.numbers = omega (arith, c.loop-map.invariant.count, c.loop-map.invariant.left, ap length c.in-Some.ensures.steps.0) in
    let counted : c.len.result ≡ length parts = omega (arith, c.len.ensures, c.loop-map.parts.ok.0) in
    let numbered : slice_index_or uses.numbers (length parts) None ≡ Some number =
    subst (λ k. slice_index_or uses.numbers k None ≡ Some number) counted (sym c.in-Some-number_of.ensures.value) in
    let here : length parts ≡ length nodes = c.loop-map.invariant.count ∙ sym (length-map c.loop-map.yielded (λ nodes. nodes.items)) in
    let pushed : c.push.new.self.items ≡ parts ++ part ∷ [] = search rules in
    rw (pushed, length_push parts part, map-append) (record {
      count = omega (arith, length_push c.loop-map.yielded c.in-Some.map, c.loop-map.invariant.count);
      left = omega (arith, length_push c.loop-map.yielded c.in-Some.map, ap length c.in-Some.ensures.steps.0, c.loop-map.invariant.left);
      parts = λ texts are.
          let at : slice_get texts (length parts) ≡ Some text = sym (text_of_number uses texts (length parts) number are below numbered) ∙ stands in
          all_paired_more (λ made part. IsMadeOf made.0 made.1 part) texts nodes parts (length parts) text c.in-Some.map.items part
          (slice_get_within texts (length parts) text at) here (sym (get_or_from_slice_get texts (length parts) text text at))
          (c.loop-map.invariant.parts texts are) c.in_ok-part-in-Some-number_of.ensures.made;
      coded = λ k n one number_is one_is.
          elim (pushed_at parts part one k one_is) [
            | inl before ↦ c.loop-map.invariant.coded k n one number_is before
            | inr (place, same) ↦
                let read : slice_get uses.numbers (length parts) ≡ Some (Some number) =
                slice_get-get_or uses.numbers (length parts) None below ∙ ap Some numbered in
                let both : Some n ≡ Some number =
                same_Some (Some n) (Some number) (sym (subst (λ i. slice_get uses.numbers i ≡ Some (Some n)) place number_is) ∙ read) in
                let n_is : n ≡ number = same_Some n number both in
                let coded_inside : number < length c.in_ok-codes.codes.items = omega (arith, inside, counted_codes) in
                let code_at : slice_get c.in_ok-codes.codes.items number ≡ Some c.index.result.now =
                slice_get_read c.in_ok-codes.codes.items (length c.in_ok-codes.codes.items) number c.index.result.now refl coded_inside c.index.ensures in
                subst (λ i. slice_get (map (λ code. code.value) c.in_ok-codes.codes.items) i ≡ Some one.code.value) (sym n_is)
                (slice_get-map (λ code. code.value) c.in_ok-codes.codes.items number
                ∙ (ap (option_map (λ code. code.value)) code_at
                ∙ (ap Some (sym c.in_ok-part-in-Some-number_of.ensures.code) ∙ ap (λ (made : Part). Some made.code.value) same)))
          ];
    })

pub returns-clause-coded : goal.returns-clause-coded
returns-clause-coded c = record { codes = map (λ code. code.value) c.in_ok-codes.codes.items; each = c.loop-map.invariant.coded }
