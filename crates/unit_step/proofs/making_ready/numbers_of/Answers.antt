-- One text more has its number.
use Rattle.std.proofs.Common.{◌≡◌, [], ◌∷◌, ◌++◌, true, Some, map, take, sym, ap, subst, ◌∙◌}
use Rattle.std.specs.Prelude.{slice_get}
use Rattle.std.specs.Result.{is_ok}
use Rattle.circuit_texts.proofs.PairedLists.{map_pushed}
use Rattle.unit_step.proofs.FinishingParts.{IsNumbered-then, known_more}
use Rattle.unit_step.proofs.making_ready.numbers_of.Goals as goal

pub loop-text-preserved : goal.loop-text-preserved
loop-text-preserved c =
    let numbered = c.number.ensures.numbered in
    let texts = c.args.texts.now in
    let i = c.loop-text.text-index in
    let ok : is_ok c.push.result ≡ true = sym c.map_err.ensures.variant ∙ ap is_ok c.in_ok-map_err.was in
    let pushed : c.push.new.self.items ≡ c.loop-text.numbers.items ++ c.in_ok-number.number ∷ [] = rw ok at c.push.ensures.items in
    let front : map (slice_get c.number.new.self.known) c.loop-text.numbers.items ≡ map Some (take i texts) =
    subst (λ known. map (slice_get known) c.loop-text.numbers.items ≡ map Some (take i texts)) (sym numbered.known)
    (known_more c.loop-text.uses.known numbered.more c.loop-text.numbers.items (take i texts) c.loop-text.invariant.numbers) in
    record {
      same = c.number.ensures.texts ∙ c.loop-text.invariant.same;
      numbered = IsNumbered-then c.args.uses.now c.loop-text.uses c.number.new.self c.loop-text.invariant.numbered numbered;
      numbers = rw pushed (map_pushed (slice_get c.number.new.self.known) Some c.loop-text.numbers.items c.in_ok-number.number texts c.text-item.result i
          c.loop-text-test.true c.text-item.is front c.in_ok-number.ensures.number);
    }
