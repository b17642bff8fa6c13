-- The last listed part is marked, and the others stay listed.
use Rattle.std.proofs.Common.{ℕ, List, arith, subst}
use Rattle.std.specs.Prelude.{vec_capacity}
use Rattle.std.proofs.lemmas.List.Elements.{Contains-push}
use Rattle.machine_parts.proofs.SetMarks.{marked_inside}
use Rattle.machine_parts.specs.Marking.{ListsMarked}
use Rattle.machine_parts.proofs.MarkLemmas.{ListsMarked-less}
use Rattle.part_lists.proofs.agenda.Agenda.pop.Goals as goal

pub index_mut-requires : goal.index_mut-requires
index_mut-requires c =
    let family : List ℕ → Type 0 = λ work. ListsMarked c.self.inside.marks.items work (vec_capacity c.self.inside.work) in
    let agenda = subst family c.in_ok-k.ensures.items c.self.invariant in
    let marked = agenda.only c.in_ok-k.k (Contains-push _ c.in_ok-k.k) in
    omega (arith, marked_inside c.self.inside.marks.items c.in_ok-k.k marked)

pub invariant_of-self-2 : goal.invariant_of-self-2
invariant_of-self-2 c =
    let family : List ℕ → Type 0 = λ work. ListsMarked c.self.inside.marks.items work (vec_capacity c.self.inside.work) in
    let agenda = subst family c.in_ok-k.ensures.items c.self.invariant in
    rw c.pop.ensures.capacity (ListsMarked-less c.self.inside.marks.items _ _ c.in_ok-k.k agenda)
