-- The words and the numbers stand one behind the other, and each list of the findings is as long as what it is read from.
use Rattle.std.proofs.Common.{ℕ, List, ◌++◌, codes, sym, ap, ◌∙◌, append_assoc, append-nil}
use Rattle.std.proofs.lemmas.List.{length-map}
use Rattle.circuit_lint.specs.Findings.{FindingsData}
use Rattle.circuit_lint.specs.Lines.{numbers_line}
use Rattle.circuit_lint.proofs.LineLemmas.{told-next}
use Rattle.circuit_lint.proofs.lines.numbers_line.Goals as goal

pub returns : goal.returns
returns c =
    let found = c.found.inside in
    let start = c.args.text.now.items in
    let shorted = told-next start _ _ (sym (append-nil start)) c.in_ok-put_counted.ensures
    (c.len.ensures ∙ found.shorted.ok.0 ∙ sym (length-map found.shorted.items (λ places. places.items))) in
    let floating = told-next start _ _ shorted c.in_ok-put_counted-2.ensures (c.len-2.ensures ∙ found.floating.ok.0) in
    let undriven = told-next start _ _ floating c.in_ok-put_counted-3.ensures (c.len-3.ensures ∙ found.undriven.ok.0) in
    let never_one = told-next start _ _ undriven c.in_ok-put_counted-4.ensures (c.len-4.ensures ∙ found.never_one.ok.0) in
    let never_zero = told-next start _ _ never_one c.in_ok-put_counted-5.ensures (c.len-5.ensures ∙ found.never_zero.ok.0) in
    let dead = told-next start _ _ never_zero c.in_ok-put_counted-6.ensures (c.len-6.ensures ∙ found.dead.ok.0) in
    let supply = told-next start _ _ dead c.in_ok-put_counted-7.ensures (c.len-7.ensures ∙ found.supply.ok.0) in
    let wide = told-next start _ _ supply c.in_ok-put_counted-8.ensures (c.len-8.ensures ∙ found.wide.ok.0) in
    let unused = told-next start _ _ wide c.in_ok-put_counted-9.ensures (c.len-9.ensures ∙ found.unused.ok.0) in
    c.in_ok-put.ensures ∙ ap (λ (xs : List ℕ). xs ++ codes "\n") unused ∙ append_assoc start _ (codes "\n")
    ∙ ap (λ (all : FindingsData). start ++ numbers_line all) c.found.view_is
