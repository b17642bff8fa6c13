use Rattle.std.proofs.Common.{sym, ◌∙◌}
use Rattle.ports.proofs.HonestLemmas.{held_at_place}
use Rattle.ports.proofs.mem_outer.MemOpener.entry.Goals as goal

pub returns : goal.returns
returns c =
    c.entry_bytes.ensures ∙ held_at_place _ _ _ c.args.name.now _ c.place_of.ensures (c.deref-2.ensures.value ∙ sym c.deref.ensures.value) c.deref.ensures.value
