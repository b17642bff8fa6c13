-- Its members first, and then what it reads.
use Rattle.std.proofs.Common.{[], ◌∷◌, ◌++◌, inl, inr, take, refl, subst, ap, ◌∙◌, arith}
use Rattle.std.specs.Prelude.{Contains}
use Rattle.run_beside.proofs.NearLemmas.{grown_more}
use Rattle.run_beside.proofs.near.Near.enter.Goals as goal

pub insert_all-requires : goal.insert_all-requires
insert_all-requires c = λ node there.
    c.requires.inside node (inl (subst (λ xs. Contains (take c.args.part.now.members xs) node) c.deref.ensures.value there))

pub insert_all-requires-2 : goal.insert_all-requires-2
insert_all-requires-2 c = λ node there.
    let inside = c.requires.inside node (inr (subst (λ xs. Contains xs node) c.deref-2.ensures.value there)) in
    omega (arith, inside, c.insert_all.ensures.marks.count)

pub returns : goal.returns
returns c =
    let members = rw c.deref.ensures.value at c.insert_all.ensures.marks in
    let reads = rw c.deref-2.ensures.value at c.insert_all-2.ensures.marks in
    record {
      listed = c.len-start.ensures.listed;
      only = c.len-start.ensures.only;
      nodes = record {
        count = reads.count ∙ members.count;
        stays = λ node was. reads.stays node (members.stays node was);
        set = λ node of. elim of [ inl member ↦ reads.stays node (members.set node member) | inr read ↦ reads.set node read ];
        only = λ node is. elim (reads.only node is) [
          | inl before ↦ elim (members.only node before) [ inl was ↦ inl was | inr member ↦ inr (inl member) ]
          | inr read ↦ inr (inr read)
        ];
      };
      list = grown_more _ _ _ c.insert_all.ensures.list c.insert_all-2.ensures.list;
      parts = c.push_reserved.ensures.items;
      starts = c.push_reserved-2.ensures.items ∙ ap (λ n. c.args.self.now.starts.items ++ n ∷ []) c.len-start.ensures.value;
      room = c.push_reserved.ensures.capacity;
      start_room = c.push_reserved-2.ensures.capacity;
      current = refl;
    }
