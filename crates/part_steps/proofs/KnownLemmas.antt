-- What is known of the runs of a code at its place.
use Rattle.std.proofs.Common.{◌≡◌, ℕ, inl, inr, List, Some, sym, subst, ◌∙◌, Global}
use Rattle.std.specs.Prelude.{slice_get}
use Rattle.std.specs.declared.rc.Rc.{Rc}
use Rattle.std.proofs.lemmas.Option.{same_Some}
use Rattle.straight_code.specs.Code.{CodeData}
use Rattle.part_words.specs.declared.last_runs.LastRuns.{LastRuns}
use Rattle.part_words.specs.LastRuns.{IsRunOf, KnowsRuns, KeepsRuns}
use Rattle.part_steps.specs.Known.{Knows}

module _ (codes : List (Rc CodeData Global)) (place : ℕ) (code : Rc CodeData Global) (there : slice_get codes place ≡ Some code) where
  -- the last runs that are of its place are runs of this code
  pub KnowsRuns-at : (known : List LastRuns) → Knows codes known → KnowsRuns place code.value known
  KnowsRuns-at known knows k runs is ran =
      let at = knows k runs place is ran in
      subst (λ (one : Rc CodeData Global). IsRunOf one.value runs.values.items) (same_Some at.code code (sym at.there ∙ there)) at.ran

  -- and once it ran what is known is still true
  pub Knows-kept : (old new : List LastRuns) → Knows codes old → KeepsRuns place code.value old new → Knows codes new
  Knows-kept old new knows keeps k runs other is ran =
      elim (keeps k runs is) [
        | inl was ↦ knows k runs other was ran
        | inr (placed, run) ↦ record {
          code = code;
          there = subst (λ n. slice_get codes n ≡ Some code) (same_Some place other (sym placed ∙ ran)) there;
          ran = run;
        }
      ]
