-- A text either is the next row's, and appears first, or was passed before.
use Rattle.std.proofs.Common.{◌≡◌, ◌+◌, true, not, refl, [], ◌∷◌, ◌++◌, length, take, drop, sym, ap, subst, ◌∙◌, arith}
use Rattle.std.specs.Map.{keys_of}
use Rattle.std.proofs.lemmas.Bool.{cond-true, cond-false}
use Rattle.std.proofs.lemmas.List.{take_more, take_all, drop_more, take-append-drop, length-take-le}
use Rattle.group_text.specs.FirstTexts.{is_among, first_texts}
use Rattle.analysis_cache.proofs.TableLemmas.{Rows}
use Rattle.analysis_cache.proofs.CountLemmas.{AreLeft, is_next, is_next-first, length-first, length-first_more, passes_next}
use Rattle.analysis_cache.proofs.recent.count_front.Goals as goal
use Rattle.analysis_cache.proofs.recent.count_front.Goals.{then-is_of, else-is_of}

pub overflow_add-count : goal.overflow_add-count
overflow_add-count c =
    let i = c.loop-text.text-index in
    let texts = c.args.texts.now in
    omega (arith, length-first (take i texts), length-take-le i texts (omega arith), c.loop-text.invariant.counted)

pub loop-text-init : goal.loop-text-init
loop-text-init c =
    record {
      counted = refl;
      left = subst (λ (rows : Rows). AreLeft rows c.next-next.result c.next-next.new.self) c.iter-front.ensures.rest c.next-next.ensures.steps;
    }

pub loop-text-preserved : goal.loop-text-preserved
loop-text-preserved c =
    let i = c.loop-text.text-index in
    let texts = c.args.texts.now in
    let text = c.text-item.result in
    let rows = c.args.codes.now.entries in
    let front = take i texts in
    let back = drop (i + 1) texts in
    let count = c.loop-text.count in
    let next = c.loop-text.next in
    let rest = c.loop-text.front in
    let whole : texts ≡ front ++ text ∷ back =
    sym (take-append-drop i texts)
    ∙ ap (λ l. front ++ l) (drop_more texts i text c.loop-text-test.true)
    ∙ ap (λ one. front ++ one ∷ back) (sym c.text-item.is) in
    let grown : take (i + 1) texts ≡ front ++ text ∷ [] =
    take_more texts i text c.loop-text-test.true ∙ ap (λ last. front ++ last ∷ []) (sym c.text-item.is) in
    let keys : keys_of rows ≡ first_texts (front ++ text ∷ back) ++ c.requires.others =
    c.requires.are ∙ ap (λ l. first_texts l ++ c.requires.others) whole in
    let tells : is_next text next ≡ not (is_among front text) =
    is_next-first front text back c.requires.others rows keys c.texts_are_apart.ensures.apart count c.loop-text.invariant.counted next rest
    c.loop-text.invariant.left in
    elim c.if-is_of.branch [
      | then-is_of w ↦
          let first : is_next text next ≡ true = sym c.is_of.ensures ∙ w.if-is_of.true in
          rw (w.count-is, w.front-is, w.next-is)
          (record {
            counted =
                ap (λ n. n + 1) c.loop-text.invariant.counted
                ∙ sym (ap (λ l. length (first_texts l)) grown ∙ length-first_more front text
                ∙ cond-true (not (is_among front text)) _ _ (sym tells ∙ first));
            left =
                subst (λ (left : Rows). AreLeft left w.next-next-then-is_of.result w.next-next-then-is_of.new.self)
                (sym (passes_next rows count text next rest c.loop-text.invariant.left first)) w.next-next-then-is_of.ensures.steps;
          })
      | else-is_of w ↦
          rw (w.count-is, w.front-is, w.next-is)
          (record {
            counted =
                c.loop-text.invariant.counted
                ∙ sym (ap (λ l. length (first_texts l)) grown ∙ length-first_more front text
                ∙ cond-false (not (is_among front text)) _ _ (sym tells ∙ sym c.is_of.ensures ∙ w.if-is_of.false));
            left = c.loop-text.invariant.left;
          })
    ]

pub returns : goal.returns
returns c =
    c.loop-text.invariant.counted
    ∙ ap (λ l. length (first_texts l)) (take_all c.loop-text.text-index c.args.texts.now (omega arith))
