-- What changes lead to, and of which kind a replacement is.
use Rattle.std.proofs.Common.{◌≡◌, ℕ, ◌<◌, ◌≤◌, Bool, true, false, not, nat_lt, inl, inr, List, [], sym, ap, subst, ◌∙◌, arith}
use Rattle.std.proofs.lemmas.Bool.{lt-ltb, le-ltb}
use Rattle.std.proofs.lemmas.List.{ext_get_or}
use Rattle.ternary.specs.declared.tern.Tern.{Tern}
use Rattle.ternary.specs.declared.tern.Tern.TheVariants.{Zero}
use Rattle.ternary.proofs.TernLemmas.{join-fades}
use Rattle.switch_paths.specs.Switching.{state_at}
use Rattle.switch_paths.specs.Graphs.{GraphData}
use Rattle.settling.specs.Settling.{IsJoinStep, StaysOrBecomesX}
use Rattle.part_words.specs.declared.change.Change.{Change}
use Rattle.machine_parts.specs.Running.{IsTaken}
use Rattle.part_steps.proofs.TakingLemmas.{change_of}
use Rattle.run_beside.specs.Agreeing.{IsMove}
use Rattle.run_beside.specs.Replacing.{IsReplacement}

-- changes lead from a state to one state alone
pub taken_one : (changes : List Change) (old one two : List Tern) → IsTaken changes old one → IsTaken changes old two → one ≡ two
taken_one changes old one two first then =
    ext_get_or Zero one two (first.count ∙ sym then.count) (λ node inside.
    elim (change_of changes node) [
      | inl (change, there, same) ↦ subst (λ n. state_at one n ≡ state_at two n) same (first.taken change there ∙ sym (then.taken change there))
      | inr none ↦ first.stays node none ∙ sym (then.stays node none)
    ])

-- and no changes to the state itself
pub taken_none : (old new : List Tern) → IsTaken [] old new → new ≡ old
taken_none old new taken = ext_get_or Zero new old taken.count (λ node inside. taken.stays node (λ change there. absurd (omega (arith, there.1))))

-- in a joining step a node stays or becomes X
pub join_fades : (g : GraphData) (old new : List Tern) → IsJoinStep g old new → StaysOrBecomesX old new
join_fades g old new step node inside =
    let next = step.joins.each node (omega (arith, inside, step.joins.left)) in
    elim (join-fades (state_at old node) (state_at step.response node)) [ inl same ↦ inl (next ∙ same) | inr unknown ↦ inr (next ∙ unknown) ]

-- a replacement of a kind is one of its number
pub kind_of : (g : GraphData) (limit count : ℕ) (old new : List Tern) (joining : Bool) → joining ≡ not (nat_lt count limit) →
    IsReplacement g limit count old new → IsMove joining g old new
kind_of g limit count old new joining kind move = subst (λ k. IsMove k g old new) (sym kind) move

-- a plain one below the limit, a joining one from it on
pub plain_kind : (limit count : ℕ) → count < limit → false ≡ not (nat_lt count limit)
plain_kind limit count less = sym (ap not (lt-ltb count limit less))

pub joining_kind : (limit count : ℕ) → limit ≤ count → true ≡ not (nat_lt count limit)
joining_kind limit count most = sym (ap not (le-ltb count limit most))
