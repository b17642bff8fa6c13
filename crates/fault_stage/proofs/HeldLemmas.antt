-- What is held after a build: a whole stage, a machine, or what was held.
use Rattle.std.proofs.Common.{◌≡◌, ℕ, List, [], Ok, Err, ap, subst, ◌∙◌}
use Rattle.std.specs.Prelude.{IfErr, Result}
use Rattle.ternary.specs.declared.tern.Tern.{Tern}
use Rattle.switch_paths.specs.Graphs.{GraphData}
use Rattle.group_text.specs.Texts.{GroupTextData}
use Rattle.analysis_cache.specs.Keeping.{KeptData, texts_of}
use Rattle.circuit_texts.specs.declared.texts.BuildFault.{BuildFault}
use Rattle.circuit_texts.specs.declared.texts.BuildFault.TheVariants.{NoMemory}
use Rattle.circuit_texts.specs.Building.{Builds, IsCutOff}
use Rattle.machine_stage.specs.Machines.{StageData}
use Rattle.fault_stage.specs.declared.built.Built.{Built}
use Rattle.fault_stage.specs.declared.held.Held.{Held}
use Rattle.fault_stage.specs.declared.held.Held.TheVariants as held
use Rattle.fault_stage.specs.Building.{BuildsAnew, BuildsHeld, LeavesKept, Refuses}
use Rattle.fault_stage.specs.Runs.{IsBuilt, IsWell}
use Rattle.fault_stage.specs.Stages.{FaultData, ServesIn, StandInFront, Waits, data_of, last_in, state_of}
use Rattle.fault_stage.proofs.BuildingLemmas.{built_ready, built_whole, not_built}
use Rattle.fault_stage.proofs.FrontLemmas.{cut_or_refused}

module _ (large : ℕ) (g : GraphData) (kept later : KeptData) (before after : List GroupTextData) where
  -- what a build leaves of what is kept that was done, and one that came to nothing
  pub leaves_done : {X : Type 0} (made : X) → later.bound ≡ kept.bound → LeavesKept large g kept later before after (Ok made)
  leaves_done made bound = record { cut_off = λ is. absurd (cc (is)); bound = bound; refused = tt }

  pub leaves_undone : {X Y : Type 0} (found : Result Y BuildFault) (fault : BuildFault) → found ≡ Err fault → later.bound ≡ kept.bound →
      (found ≡ Err NoMemory → IsCutOff large g (texts_of kept) (texts_of later) before after) → Refuses large g kept later before after fault →
      LeavesKept {X = X} large g kept later before after (Err fault)
  leaves_undone found fault is bound cut refuses = record {
    cut_off = λ lacks. let none : fault ≡ NoMemory = cc in cut (is ∙ ap (λ (why : BuildFault). Err why) none);
    bound = bound;
    refused = refuses;
  }

  module _ (old : FaultData) (none : last_in old ≡ []) where
    -- a whole stage is held
    pub held_whole : (stage : StageData) (count : ℕ) (state : List Tern) → state ≡ state_of old →
        BuildsAnew large g kept.bound state (texts_of kept) (texts_of later) before after stage count → later.bound ≡ kept.bound →
        BuildsHeld large g old (held.Whole stage) kept later before after (Ok count)
    held_whole stage count state same anew bound = record {
      well = tt;
      builds = built_whole large g kept.bound old (texts_of kept) (texts_of later) before after none stage count state same anew;
      bound = bound;
      refused = tt;
    }

    -- a machine is
    pub held_ready : (built : Built) (count : ℕ) → IsBuilt built → built.graph ≡ g → built.large ≡ large → built.state.items ≡ state_of old →
        Builds large g kept.bound (texts_of kept) (texts_of later) before after count → StandInFront built.machine.last (texts_of later) →
        later.bound ≡ kept.bound → BuildsHeld large g old (held.Built built) kept later before after (Ok count)
    held_ready built count well graph large_is state builds front bound = record {
      well = well;
      builds = built_ready large g kept.bound old (texts_of kept) (texts_of later) before after none _ count graph large_is state builds front;
      bound = bound;
      refused = tt;
    }

  -- what was held is
  pub held_still : {X : Type 0} (it : Held) (found : Result X BuildFault) (fault : BuildFault) → last_in (data_of it) ≡ [] → IsWell it → found ≡ Err fault →
      LeavesKept large g kept later before after found →
      (IsCutOff large g (texts_of kept) (texts_of later) before after → ServesIn (data_of it) g (texts_of later)) →
      BuildsHeld large g (data_of it) it kept later before after (Err fault)
  held_still it found fault none well is leaves serves =
      let refuses = subst (λ result. IfErr result (Refuses large g kept later before after)) is leaves.refused in
      let cut = cut_or_refused large g kept later before after found fault is refuses leaves.cut_off in record {
        well = well;
        builds = not_built large g kept.bound (data_of it) (texts_of kept) (texts_of later) before after none fault (serves cut) cut;
        bound = leaves.bound;
        refused = refuses;
      }

-- a build in a machine's own graph is one in the graph that it was led to, and of a stage with the same texts
pub held_led : (large : ℕ) (own g : GraphData) (state : List Tern) (spare : ℕ) (texts other : List GroupTextData) (new : Held) (kept later : KeptData)
    (before after : List GroupTextData) (result : Result ℕ BuildFault) → own ≡ g → texts ≡ other →
    BuildsHeld large own (Waits (record { state = state; spare = spare; texts = texts })) new kept later before after result →
    BuildsHeld large g (Waits (record { state = state; spare = spare; texts = other })) new kept later before after result
held_led large own g state spare texts other new kept later before after result own_is same builds =
    subst (λ (list : List GroupTextData). BuildsHeld large g (Waits (record { state = state; spare = spare; texts = list })) new kept later before after result) same
    (subst (λ (h : GraphData). BuildsHeld large h (Waits (record { state = state; spare = spare; texts = texts })) new kept later before after result) own_is builds)
