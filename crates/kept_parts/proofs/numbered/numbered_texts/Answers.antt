-- The groups with all ids are all groups.
use Rattle.circuit_texts.proofs.ChosenLemmas.{chosen-all}
use Rattle.kept_parts.proofs.numbered.numbered_texts.Goals as goal

pub returns : goal.returns
returns c =
    let all = chosen-all c.args.groups.now.groups c.requires.ascending c.in_ok-ids.ids.items c.deref.result.now c.deref.ensures.value
    c.in_ok-ids.ensures.ids c.in_ok-ids.ensures.all in
    let made = c.numbered_at.ensures in
    record { texts = rw all at made.texts; known = rw all at made.known; maps = rw all at made.maps; fits = rw all at made.fits; too_large = rw all at made.too_large }
