-- The groups with all ids are all groups.
use Rattle.circuit_texts.proofs.ChosenLemmas.{chosen-all}
use Rattle.circuit_texts.proofs.texts.texts_of.Goals as goal

pub returns : goal.returns
returns c =
    let all = chosen-all c.args.groups.now.groups c.requires.ascending c.in_ok-ids.ids.items c.deref.result.now c.deref.ensures.value
    c.in_ok-ids.ensures.ids c.in_ok-ids.ensures.all in
    record { texts = rw all at c.texts_at.ensures.texts; maps = rw all at c.texts_at.ensures.maps; fits = rw all at c.texts_at.ensures.fits; too_large = rw all at c.texts_at.ensures.too_large }
