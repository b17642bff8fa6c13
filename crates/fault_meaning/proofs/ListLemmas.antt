-- How far a list of faults was read: the faults so far with those of the lines that are left are all, unless a line is refused.
use Rattle.std.proofs.Common.{◌≡◌, ℕ, Bool, false, if◌then◌else◌, List, [], ◌∷◌, ◌++◌, Option, Some, None, Result, Ok, Err, IfSome, All, refl, sym, ap, subst, ◌∙◌, append_assoc, append-nil}
use Rattle.std.proofs.lemmas.List.Elements.{All-nil, All-push}
use Rattle.line_words.specs.Files.{is_cut}
use Rattle.netlist.specs.Circuits.{CircuitData}
use Rattle.printed_lines.specs.declared.faults.FaultCode.{FaultCode}
use Rattle.printed_lines.specs.declared.faults.FaultCode.TheVariants.{F2TooLong}
use Rattle.fault_sim.specs.declared.fault.Fault.{Fault}
use Rattle.fault_sim.specs.declared.fault.ListFault.{ListFault}
use Rattle.fault_sim.specs.Faults.{IsFault, fault_of_line}
use Rattle.fault_meaning.specs.declared.listed.ListedFault.{ListedFault}
use Rattle.fault_meaning.specs.declared.listed.ListRefusal.{ListRefusal}
use Rattle.fault_meaning.specs.Lists.{faults_at, put_before, with_code, with_line, listed_at, faults_of}

-- the faults so far, each of which the circuit can have, and what is left
pub record HasRead (c : CircuitData) (cut : Option ℕ) (all : List (ℕ × List ℕ)) (faults : List ListedFault) (left : List (ℕ × List ℕ)) : Type 0 where
  pub goes_on : faults_of c cut all ≡ put_before faults (faults_of c cut left)
  pub faulty : All (λ listed. IsFault c listed.fault) faults

module _ (c : CircuitData) (cut : Option ℕ) (all : List (ℕ × List ℕ)) where
  none_before : (read : Result (List ListedFault) ListRefusal) → read ≡ put_before [] read
  none_before (Ok more) = refl
  none_before (Err refusal) = refl

  pub read_first : HasRead c cut all [] all
  read_first = record { goes_on = none_before (faults_of c cut all); faulty = All-nil (λ (listed : ListedFault). IsFault c listed.fault) }

  module _ (faults : List ListedFault) (line : ℕ × List ℕ) (left : List (ℕ × List ℕ)) (come : HasRead c cut all faults (line ∷ left)) where
    -- faults before others and then more
    twice : (some : List ListedFault) (read : Result (List ListedFault) ListRefusal) → put_before faults (put_before some read) ≡ put_before (faults ++ some) read
    twice some (Ok more) = ap Ok (sym (append_assoc faults some more))
    twice some (Err refusal) = refl

    fits : (found : Option Fault) → IfSome found (IsFault c) → All (λ listed. IsFault c listed.fault) (faults ++ faults_at line.0 found)
    fits None faulty = subst (All (λ (listed : ListedFault). IsFault c listed.fault)) (sym (append-nil faults)) come.faulty
    fits (Some fault) faulty = All-push (λ (listed : ListedFault). IsFault c listed.fault) faults (record { line = line.0; fault = fault }) come.faulty faulty

    -- past a line that isn't refused
    pub read_on : (found : Option Fault) (new : List ListedFault) → listed_at c cut line ≡ Ok found → IfSome found (IsFault c) →
        new ≡ faults ++ faults_at line.0 found → HasRead c cut all new left
    read_on found new is faulty grown =
        subst (λ (now : List ListedFault). HasRead c cut all now left) (sym grown)
        (record {
          goes_on = come.goes_on ∙ ap (λ (here : Result (Option Fault) FaultCode). put_before faults (with_line line.0 here (faults_of c cut left))) is
              ∙ twice (faults_at line.0 found) (faults_of c cut left);
          faulty = fits found faulty;
        })

    -- to a line that is refused
    pub read_refused : (code : FaultCode) → listed_at c cut line ≡ Err code → faults_of c cut all ≡ Err (record { line = line.0; code = code })
    read_refused code is =
        come.goes_on ∙ ap (λ (here : Result (Option Fault) FaultCode). put_before faults (with_line line.0 here (faults_of c cut left))) is

  -- to the end
  pub read_last : (faults : List ListedFault) → HasRead c cut all faults [] → faults_of c cut all ≡ Ok faults
  read_last faults come = come.goes_on ∙ ap Ok (append-nil faults)

-- a line inside the list is as it is read
pub listed_inside : (c : CircuitData) (cut : Option ℕ) (line : ℕ × List ℕ) (read : Result (Option Fault) ListFault) → is_cut cut line.0 ≡ false →
    read ≡ fault_of_line c line.1 → with_code read ≡ listed_at c cut line
listed_inside c cut line read inside is =
    ap with_code is ∙ sym (ap (λ (far : Bool). if far then Err F2TooLong else with_code (fault_of_line c line.1)) inside)
