-- Marks that come behind the others.
use Rattle.std.proofs.Common.{◌≡◌, ℕ, suc, zero, ◌+◌, ◌≤◌, Bool, true, cond, inl, inr, List, [], ◌∷◌, ◌++◌, length, refl, sym, subst, arith}
use Rattle.std.specs.Prelude.{Contains}
use Rattle.std.proofs.lemmas.List.{length_push}
use Rattle.std.proofs.lemmas.List.Sums.{sum_by_push, count_by-le-length}
use Rattle.std.proofs.lemmas.List.Elements.{Contains-push, Contains-push_cases, Contains-append_left}
use Rattle.machine_parts.specs.Marking.{IsMarked, ListsMarked}
use Rattle.machine_parts.proofs.SetMarks.{marked_inside}
use Rattle.machine_parts.proofs.MarkLemmas.{AreOnce-push, marked-last, marked-push, marked-push_cases}

-- no more parts are listed than there are
pub listed_few : (marks : List Bool) (list : List ℕ) (capacity : ℕ) → ListsMarked marks list capacity → length list ≤ length marks
listed_few marks list capacity lists = omega (arith, lists.number, count_by-le-length (λ mark. mark) marks)

-- one part more is marked, and listed
pub ListsMarked-added : (marks : List Bool) (list : List ℕ) (capacity more : ℕ) → length marks + 1 ≤ more → ListsMarked marks list capacity →
    ListsMarked (marks ++ true ∷ []) (list ++ length marks ∷ []) more
ListsMarked-added marks list capacity more room lists =
    let one : Bool → ℕ = λ mark. cond mark 1 0 in
    let worth : one true ≡ suc zero = refl in
    let marks_more = sum_by_push one marks true in
    let k = length marks in
    record {
      listed = λ l marked.
          elim (marked-push_cases marks l marked) [
            | inl before ↦ Contains-append_left list (k ∷ []) l (lists.listed l before)
            | inr last ↦ subst (Contains (list ++ k ∷ [])) (sym last) (Contains-push list k)
          ];
      only = λ l there.
          elim (Contains-push_cases list k l there) [
            | inl before ↦ marked-push marks l (lists.only l before)
            | inr same ↦ subst (IsMarked (marks ++ true ∷ [])) same (marked-last marks)
          ];
      once = AreOnce-push list k lists.once (λ there. absurd (omega (arith, marked_inside marks k (lists.only k there))));
      number = omega (arith, lists.number, marks_more, worth, length_push list k);
      room = omega (arith, room, length_push marks true);
    }
