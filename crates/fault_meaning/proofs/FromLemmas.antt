-- The lines of a script that were scanned for the one from which on all is calm.
-- The plan: lines are numbered one after the other, so each line before that one has a smaller number, and of it nothing is wanted.
use Rattle.std.proofs.Common.{◌≡◌, ℕ, ◌+◌, ◌<◌, List, [], ◌∷◌, ◌++◌, All, Option, None, Some, IfSome, refl, sym, subst, ◌∙◌, arith, append_assoc, append-nil}
use Rattle.std.specs.List.{enumerate_from}
use Rattle.std.proofs.lemmas.List.Elements.{All-nil, All-push, All-weaker}
use Rattle.line_words.specs.Files.{front_of, lines_in}
use Rattle.line_words.specs.Lines.{lines_of}
use Rattle.fault_meaning.specs.declared.bearing.Bearing.{Bearing}
use Rattle.fault_meaning.specs.declared.bearing.Bearing.TheVariants.{Unsettles, Builds, Stays}
use Rattle.fault_meaning.specs.Early.{IsCalm, HasBearing, Lasts, IsCalmFrom, from_after}
use Rattle.fault_meaning.proofs.CalmLemmas.{building_line}
use Rattle.fault_meaning.proofs.PlaceLemmas.{is_next}

-- the lines so far, those that are left, and the number from which on those so far are calm, if there is one
pub record HasScanned (all left : List (ℕ × List ℕ)) (from : Option ℕ) : Type 0 where
  pub done : List (ℕ × List ℕ)
  pub split : all ≡ done ++ left
  pub next : ℕ
  pub rest : List (List ℕ)
  pub high : 0 < next
  pub numbered : left ≡ enumerate_from next rest
  pub before : All (λ (line : ℕ × List ℕ). line.0 < next) done
  pub calm : IfSome from (λ number. (0 < number) × (number < next) × All (Lasts number) done)

-- at the start
pub scanned_first : (script : List ℕ) → HasScanned (lines_in script) (lines_in script) None
scanned_first script = record {
  done = [];
  split = refl;
  next = 1;
  rest = lines_of (front_of script);
  high = omega arith;
  numbered = refl;
  before = All-nil (λ (line : ℕ × List ℕ). line.0 < 1);
  calm = tt;
}

-- of a line before it nothing is wanted
lasts_before : (number next : ℕ) (line : ℕ × List ℕ) → number ≡ next → line.0 < next → Lasts number line
lasts_before number next line same low = record {
  building = λ here. absurd (omega (arith, here, same, low));
  calm = λ high. absurd (omega (arith, high, same, low));
}

-- of one after it that it is calm
lasts_after : (number : ℕ) (line : ℕ × List ℕ) → number < line.0 → IsCalm line.1 → Lasts number line
lasts_after number line low calm = record { building = λ here. absurd (omega (arith, here, low)); calm = λ high. calm }

-- one more line
module _ (all : List (ℕ × List ℕ)) (line : ℕ × List ℕ) (left : List (ℕ × List ℕ)) where
  calm_on : (from : Option ℕ) (bearing : Bearing) (done : List (ℕ × List ℕ)) (next : ℕ) → 0 < next → line.0 ≡ next →
      All (λ (one : ℕ × List ℕ). one.0 < next) done → HasBearing line.1 bearing →
      IfSome from (λ number. (0 < number) × (number < next) × All (Lasts number) done) →
      IfSome (from_after from line.0 bearing) (λ number. (0 < number) × (number < next + 1) × All (Lasts number) (done ++ line ∷ []))
  calm_on None Unsettles done next high at before bears calm = tt
  calm_on (Some number) Unsettles done next high at before bears calm = tt
  calm_on None Builds done next high at before is calm = (
    omega (arith, at, high),
    omega (arith, at),
    All-push (Lasts line.0) done line
        (All-weaker (λ (one : ℕ × List ℕ). one.0 < next) (Lasts line.0) (λ one low. lasts_before line.0 next one at low) done before)
        (record { building = λ here. is; calm = λ high. building_line line.1 is }),
  )
  calm_on (Some number) Builds done next high at before is calm =
      let low = calm.1 in (
        calm.0,
        omega (arith, low),
        All-push (Lasts number) done line calm.2 (lasts_after number line (omega (arith, low, at)) (building_line line.1 is)),
      )
  calm_on None Stays done next high at before still calm = tt
  calm_on (Some number) Stays done next high at before still calm =
      let low = calm.1 in (
        calm.0,
        omega (arith, low),
        All-push (Lasts number) done line calm.2 (lasts_after number line (omega (arith, low, at)) still),
      )

  pub scanned_on : (from : Option ℕ) (bearing : Bearing) → HasScanned all (line ∷ left) from → HasBearing line.1 bearing →
      HasScanned all left (from_after from line.0 bearing)
  scanned_on from bearing scanned bears =
      let here = is_next scanned.next scanned.rest line left scanned.numbered in
      let next = scanned.next in
      let at = here.at in
      record {
        done = scanned.done ++ line ∷ [];
        split = scanned.split ∙ sym (append_assoc scanned.done (line ∷ []) left);
        next = next + 1;
        rest = here.others;
        high = omega arith;
        numbered = here.numbered;
        before = All-push (λ (one : ℕ × List ℕ). one.0 < next + 1) scanned.done line
            (All-weaker (λ (one : ℕ × List ℕ). one.0 < next) (λ (one : ℕ × List ℕ). one.0 < next + 1) (λ one low. omega (arith, low)) scanned.done scanned.before)
            (omega (arith, at));
        calm = calm_on from bearing scanned.done next scanned.high at scanned.before bears scanned.calm;
      }

-- all lines
pub scanned_last : (script : List ℕ) (from : Option ℕ) → HasScanned (lines_in script) [] from → IfSome from (IsCalmFrom script)
scanned_last script from scanned = by from scanned.calm
  where
    by : (from : Option ℕ) → IfSome from (λ number. (0 < number) × (number < scanned.next) × All (Lasts number) scanned.done) →
        IfSome from (IsCalmFrom script)
    by None calm = tt
    by (Some number) calm = record {
      numbered = calm.0;
      lasts = subst (All (Lasts number)) (sym (scanned.split ∙ append-nil scanned.done)) calm.2;
    }
