-- A phase that comes to rest in time: its state is steady, so that one step more changes nothing, leaves no mark but those of stale parts,
-- and nothing touched.
use Rattle.std.proofs.Common.{◌≡◌, ℕ, zero, suc, ◌<◌, inl, inr, Bool, false, List, refl, sym, ap, subst, arith}
use Rattle.std.specs.Prelude.{IsTrue}
use Rattle.ternary.specs.declared.tern.Tern.{Tern}
use Rattle.switch_paths.specs.Switching.{state_at}
use Rattle.switch_paths.specs.Graphs.{GraphData}
use Rattle.switch_paths.specs.Step.{IsStep}
use Rattle.switch_paths.proofs.UniqueSteps.{unique}
use Rattle.settling.specs.Settling.{Settles, Joining}
use Rattle.settling.proofs.SettlingLemmas.{Stepping-steady}
use Rattle.machine_laws.specs.Machines.{MachineData, TouchesChanged, IsAtRest}
use Rattle.machine_laws.proofs.FittingLemmas.{nothing_touched}
use Rattle.machine_stage.specs.Stages.{TakesStep}

-- without joining steps the state stays
unjoined : (g : GraphData) (second : ℕ) (mid new : List Tern) → Joining g mid second new → (0 < second → IsTrue false) → (new ≡ mid) × (second ≡ 0)
unjoined g zero mid new joining none = (joining.1, refl)
unjoined g (suc second) mid new joining none = let impossible : IsTrue false = none (omega arith) in absurd (cc)

-- a state that settled in time is steady
pub settled_rests : (g : GraphData) (old : List Tern) (limit : ℕ) (new : List Tern) (steps : ℕ) (joined : Bool) → Settles g old limit new steps joined →
    joined ≡ false → steps < limit → IsStep g new new
settled_rests g old limit new steps joined settles none few =
    let (same, zero_joins) = unjoined g settles.second settles.mid new settles.joining (λ some. subst (λ (b : Bool). IsTrue b) none (settles.was_joined.1 some)) in
    let fewer : settles.first < limit = omega (arith, settles.total, few) in
    let steady = Stepping-steady g limit old settles.first settles.mid settles.stepping fewer in
    subst (λ (state : List Tern). IsStep g state state) (sym same) steady

module _ (g : GraphData) (old new : MachineData) (takes : TakesStep g old new) (steady : IsStep g old.state old.state) where
  -- a step from a steady state leaves it
  pub steady_stays : new.state ≡ old.state
  steady_stays = unique g old.state new.state old.state takes.step steady

  -- and counts for nothing
  pub steady_moves : new.moves ≡ old.moves
  steady_moves = takes.rested steady_stays

  -- and leaves no mark but those of stale parts, and nothing touched: no node that a part reads changed, and no switch
  pub steady_rests : IsAtRest new
  steady_rests = record {
    marks = λ k marked.
        elim (takes.marks k marked) [
          | inl reads ↦ absurd (reads.changed (ap (λ (state : List Tern). state_at state reads.node) steady_stays))
          | inr stale ↦ stale
        ];
    untouched = nothing_touched new old.state (subst (TouchesChanged new old.state) steady_stays takes.touched);
  }
