-- What a stage serves that was built: its machine fits as long as the states move by the model's steps, and the texts stand in front.
use Rattle.std.proofs.Common.{◌≡◌, ℕ, ◌⊎◌, inl, inr, true, List, [], Option, None, refl, sym, subst, ◌∙◌}
use Rattle.switch_paths.specs.Graphs.{GraphData}
use Rattle.group_text.specs.Texts.{GroupTextData}
use Rattle.group_analysis.specs.Using.{used_texts}
use Rattle.analysis_cache.specs.Keeping.{KeptData, texts_of}
use Rattle.circuit_texts.specs.declared.texts.BuildFault.{BuildFault}
use Rattle.circuit_texts.specs.declared.texts.BuildFault.TheVariants as build
use Rattle.circuit_texts.specs.Sizes.{TellsRefused}
use Rattle.circuit_texts.specs.Building.{Builds}
use Rattle.column_stage.specs.Standing.{IsCutInColumns}
use Rattle.decision_graph.specs.declared.vertex.Function.{Function}
use Rattle.truth_makers.specs.declared.symbols.Symbols.{Symbols}
use Rattle.truth_makers.specs.Makers.{columns_in, function_holds}
use Rattle.truth_machine.specs.Machines.{TruthData, FitsInMachine}
use Rattle.truth_machine.specs.Symbols.{MakesMore}
use Rattle.column_stage.proofs.FrontLemmas.{kept_alone}
use Rattle.column_stage.proofs.StandingLemmas.{built_stands_first, first_builds, stands_cut}
use Rattle.symbol_stage.specs.Stages.{FitsIn, ServesIn, StageData}

module _ (old new : StageData) (same : new.built ≡ old.built) where
  -- what fits a graph still serves it still
  pub serves_still : (g : GraphData) → (FitsIn old g → FitsIn new g) → (kept : List GroupTextData) → ServesIn old g kept → ServesIn new g kept
  serves_still g fits kept serves = λ built.
      let was = serves (sym same ∙ built) in
      record { fits = fits was.fits; known = was.known }

-- a stage that was so, which goes on with another machine and without room
module _ {was now : StageData} (is : was ≡ now) (later : TruthData Function Symbols) where
  -- what fitted a graph fits it still, and serves it
  pub serves_next : (g : GraphData) → (FitsIn was g → FitsInMachine columns_in function_holds g later) → (kept : List GroupTextData) → ServesIn now g kept →
      ServesIn (record { machine = later; built = was.built; spare = 0 }) g kept
  serves_next g fits kept serves =
      serves_still was (record { machine = later; built = was.built; spare = 0 }) refl g fits kept
      (subst (λ (stage : StageData). ServesIn stage g kept) (sym is) serves)

  -- so if the maker made more
  pub serves_made : MakesMore was.machine later → (g : GraphData) (kept : List GroupTextData) → ServesIn now g kept →
      ServesIn (record { machine = later; built = was.built; spare = 0 }) g kept
  serves_made makes g = serves_next g (makes.fits g)

module _ (g : GraphData) (kept : List GroupTextData) (stage : StageData) (serves : ServesIn stage g kept) where
  -- one that was built has what a build wants
  pub fits_there : stage.built ≡ true → FitsIn stage g
  fits_there built = (serves built).fits

  pub builds_there : stage.built ≡ true → (bound : Option ℕ) (asked : List GroupTextData) → bound ≡ None → Builds 0 g bound kept kept asked asked 0
  builds_there built bound asked unbounded =
      subst (λ (b : Option ℕ). Builds 0 g b kept kept asked asked 0) (sym unbounded) (first_builds 0 g kept asked (serves built).known)

-- once it is built it serves
pub serves_anew : (g : GraphData) (new : StageData) → FitsIn new g → (bound : Option ℕ) (kept later asked told : List GroupTextData) (count : ℕ) →
    Builds 0 g bound kept later asked told count → ServesIn new g later
serves_anew g new fits bound kept later asked told count builds = λ built.
    record { fits = fits; known = built_stands_first 0 g bound kept later asked told count builds }

-- and where it couldn't be, it serves what it served
pub serves_cut : (g : GraphData) (old new : StageData) → new.built ≡ old.built → (FitsIn old g → FitsIn new g) → (kept later : KeptData) (asked told : List GroupTextData)
    (fault : BuildFault) → ServesIn old g (texts_of kept) → (fault ≡ build.NoMemory) ⊎ (TellsRefused 0 g fault × (later ≡ kept) × (told ≡ asked)) →
    (fault ≡ build.NoMemory → IsCutInColumns 0 g kept.bound (texts_of kept) (texts_of later) asked told) → ServesIn new g (texts_of later)
serves_cut g old new same fits kept later asked told fault serves (inl is) cut = λ built.
    let was = serves (sym same ∙ built) in
    record { fits = fits was.fits; known = stands_cut 0 0 g kept.bound (texts_of kept) (texts_of later) asked told was.known (cut is) }
serves_cut g old new same fits kept later asked told fault serves (inr (first, same_kept, unasked)) cut =
    subst (λ (k : KeptData). ServesIn new g (texts_of k)) (sym same_kept) (serves_still old new same g fits (texts_of kept) serves)

-- without texts of a last build what is kept stands as the table has it
pub serves_alone : (stage : StageData) (g : GraphData) (kept : List GroupTextData) → ServesIn stage g kept → ServesIn stage g (used_texts [] kept)
serves_alone stage g kept serves = subst (λ (texts : List GroupTextData). ServesIn stage g texts) (kept_alone kept) serves

pub serves_table : (stage : StageData) (g : GraphData) (kept : List GroupTextData) → ServesIn stage g (used_texts [] kept) → ServesIn stage g kept
serves_table stage g kept serves = subst (λ (texts : List GroupTextData). ServesIn stage g texts) (sym (kept_alone kept)) serves
