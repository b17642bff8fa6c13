-- What a name keeps is among all that is kept.
use Rattle.std.proofs.Common.{◌≡◌, ℕ, length, ap, ◌∙◌, arith}
use Rattle.symbol_session.specs.Keeping.{with_name}
use Rattle.symbol_session.proofs.FoundLemmas.{kept_room}
use Rattle.symbol_session.proofs.keeping.keep_rails.Goals as goal

pub found_save-found-requires : goal.found_save-found-requires
found_save-found-requires c = rw c.deref.ensures.value (omega (arith, c.requires, c.args.kept.now.ok))

pub kept_with-requires : goal.kept_with-requires
kept_with-requires c =
    let saves = c.args.saves.now.items in
    let room = kept_room saves c.args.name.now in
    let found = c.found_save-found.ensures in
    rw c.deref-2.ensures.value
    (omega (
      arith,
      c.requires,
      room,
      rw (c.deref.ensures.value, c.items.ensures) at found.place,
      rw (c.deref.ensures.value, c.items.ensures) at found.nodes,
    ))

pub put_save-requires-clause-there : goal.put_save-requires-clause-there
put_save-requires-clause-there c = rw (c.deref.ensures.value, c.items.ensures) at c.found_save-found.ensures.there

pub put_save-requires-clause-number : goal.put_save-requires-clause-number
put_save-requires-clause-number c = rw (c.deref.ensures.value, c.items.ensures) at c.found_save-found.ensures.number

pub returns-clause-saves : goal.returns-clause-saves
returns-clause-saves c =
    let count : c.len-nodes.result ≡ length c.args.rails.now.0.items = omega (arith, c.len-nodes.ensures, c.args.rails.now.0.ok) in
    c.in_ok-put_save.ensures.ok ∙ ap (λ (n : ℕ). with_name c.args.saves.now.items c.args.name.now n) count

pub returns-clause-kept : goal.returns-clause-kept
returns-clause-kept c =
    rw (
      c.deref-2.ensures.value,
      c.deref-3.ensures.value,
      c.deref-4.ensures.value,
      c.found_save-found.ensures.place,
      c.found_save-found.ensures.nodes,
      c.deref.ensures.value,
      c.items.ensures,
    ) at c.in_ok-made.ensures
