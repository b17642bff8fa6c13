-- All parts were listed, if none was.
use Rattle.std.proofs.Common.{ℕ, sym, subst, arith}
use Rattle.std.specs.Prelude.{Contains}
use Rattle.std.proofs.lemmas.List.{with_items_is}
use Rattle.machine_parts.specs.Parts.{ReadsAt}
use Rattle.machine_parts.specs.Readers.{readers_of}
use Rattle.part_steps.proofs.readers.ReaderLists.of_parts.Goals as goal

pub list_parts-requires-clause-none : goal.list_parts-requires-clause-none
list_parts-requires-clause-none c = λ node k there.
    c.in_ok-lists.ensures.none node k (subst (λ lists. Contains (readers_of lists node) k) c.deref_mut.ensures.value there)

pub returns-clause-readers : goal.returns-clause-readers
returns-clause-readers c =
    let final = with_items_is c.in_ok-lists.lists c.list_parts.new.lists (omega (arith, c.list_parts.auto.lists, c.deref_mut.ensures.len)) in
    subst (λ lists. (node k : ℕ) → ReadsAt c.args.parts.now k node → Contains (readers_of lists node) k) (sym final)
    (λ node k reads. c.in_ok-list_parts.ensures.readers node k reads.stands.inside reads)

pub returns-clause-reads : goal.returns-clause-reads
returns-clause-reads c =
    let final = with_items_is c.in_ok-lists.lists c.list_parts.new.lists (omega (arith, c.list_parts.auto.lists, c.deref_mut.ensures.len)) in
    subst (λ lists. (node k : ℕ) → Contains (readers_of lists node) k → ReadsAt c.args.parts.now k node) (sym final)
    c.in_ok-list_parts.ensures.reads
