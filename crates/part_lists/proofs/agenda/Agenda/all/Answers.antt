-- All parts are marked and listed.
use Rattle.std.proofs.Common.{rules, ◌≡◌, ℕ, ◌≤◌, true, inl, inr, map, arith}
use Rattle.std.specs.Prelude.{replicate}
use Rattle.std.specs.List.{range_with_len}
use Rattle.machine_parts.specs.Marking.{ListsMarked}
use Rattle.machine_parts.proofs.MakingLemmas.{none_marked, IsAgenda-all}
use Rattle.part_lists.proofs.agenda.Agenda.all.Goals as goal

all_listed : (n capacity : ℕ) → n ≤ capacity → ListsMarked (replicate n true) (map (λ k. k) (range_with_len 0 n)) capacity
all_listed n capacity room =
    let all = IsAgenda-all n capacity room in
    record {
      listed = λ k marked.
          elim (all.listed k marked) [
            | inl there ↦ there
            | inr waits ↦ absurd (none_marked n k waits)
          ];
      only = all.marked;
      once = all.once;
      number = omega (arith, all.number, all.stale_is);
      room = all.room;
    }

pub invariant_of-result : goal.invariant_of-result
invariant_of-result c =
    let marks : c.in_ok-vec.field-0.items ≡ replicate c.args.parts true = search rules in
    rw (marks, c.in_ok-work.ensures.numbers) (all_listed c.args.parts _ (omega (arith, c.in_ok-work.ensures.room)))
