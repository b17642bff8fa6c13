-- A machine begins beside a run with all parts apart, and parts go back.
use Rattle.std.proofs.Common.{◌≡◌, ℕ, ◌<◌, true, false, inl, inr, length, replicate, sym, subst}
use Rattle.std.specs.Prelude.{slice_index_or}
use Rattle.std.proofs.lemmas.List.{get_or-replicate}
use Rattle.switch_paths.specs.Graphs.{GraphData}
use Rattle.machine_parts.specs.declared.part.MachinePart.{MachinePart}
use Rattle.machine_parts.specs.Parts.{Stands}
use Rattle.machine_parts.specs.Marking.{IsMarked}
use Rattle.machine_parts.proofs.CaseLemmas.{true_or_not}
use Rattle.machine_parts.proofs.SetMarks.{marked_inside}
use Rattle.machine_laws.specs.Machines.{MachineData}
use Rattle.machine_laws.specs.Fitting.{FitsGraph}
use Rattle.machine_laws.proofs.FittingLemmas.{fits_with}
use Rattle.machine_laws.proofs.HeldLemmas.{held_at}
use Rattle.beside.specs.Fitting.{all_marked}
use Rattle.beside.specs.Laws.{MachinesStartBeside, GoingBackFitsBeside}

-- with all parts marked a machine fits the graph that it fits
all_fit : (h : GraphData) (m : MachineData) → FitsGraph h m → FitsGraph h (all_marked m)
all_fit h m fits =
    let marked : (k : ℕ) (part : MachinePart) → Stands m.parts k part → IsMarked (replicate (length m.parts) true) k =
    λ k part stands. get_or-replicate (length m.parts) k true false stands.inside in
    fits_with h m fits (replicate (length m.parts) true) m.state m.last m.moves m.placed m.wide fits.covers.counted
    (λ k part stands some none. marked k part stands) (λ k part stands unmarked. absurd (unmarked (marked k part stands))) fits.covers.stale_only
    (λ one is k part stands some stale. held_at h m fits one is k part stands some stale) (λ is. is) fits.sound

pub starts_beside : MachinesStartBeside
starts_beside g h good apart m fits counted apart_counted good_counted marked is_apart = record {
  fits = all_fit h m fits;
  counted = counted;
  apart_counted = apart_counted;
  good_counted = good_counted;
  shared = λ k part stands out. absurd (out (is_apart k stands.inside));
  kept = λ node differs k concerns. elim concerns [ inl has ↦ is_apart k has.stands.inside | inr reads ↦ is_apart k reads.stands.inside ];
  waits = λ k stale. marked k stale.stands.inside;
  only = λ k is. is_apart k (subst (λ n. k < n) counted (marked_inside m.marks k is));
  rests = λ k part stands is unmarked. absurd (unmarked (marked k stands.inside));
}

pub goes_back_beside : GoingBackFitsBeside
goes_back_beside g h good touched apart new_apart m fits alike back = record {
  fits = fits.fits;
  counted = fits.counted;
  apart_counted = subst (λ n. n ≡ length m.parts) (sym back.count) fits.apart_counted;
  good_counted = fits.good_counted;
  shared = λ k part stands out group is_part.
      elim (true_or_not (slice_index_or apart k false)) [
        | inl was ↦ alike k part stands (back.untouched k was out) group is_part
        | inr never ↦ fits.shared k part stands never group is_part
      ];
  kept = λ node differs k concerns. still k (fits.kept node differs k concerns) (λ was out. differs (back.agreed k was out node concerns));
  waits = fits.waits;
  only = λ k marked. still k (fits.only k marked) (λ was out. back.unmarked k was out marked);
  rests = λ k part stands is unmarked. fits.rests k part stands (back.fewer k is) unmarked;
}
  where
    -- a part that was apart still is, if that it went back is absurd
    still : (k : ℕ) → IsMarked apart k → (IsMarked apart k → (¬ IsMarked new_apart k) → ⊥) → IsMarked new_apart k
    still k was wrong =
        elim (true_or_not (slice_index_or new_apart k false)) [ inl is ↦ is | inr out ↦ absurd (wrong was out) ]
