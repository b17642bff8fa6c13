-- A step touches no more than the ends of the switches that changed.
use Rattle.std.proofs.Common.{◌≡◌, ◌⊎◌, inl, inr, Bool, true, false, List, sym, subst, rules}
use Rattle.std.specs.Bool.{OnTrue, OnFalse}
use Rattle.machine_parts.specs.declared.part.MachinePart.{MachinePart}
use Rattle.machine_parts.specs.Parts.{IsStale}
use Rattle.machine_parts.specs.Stepping.{ReadsChange}
use Rattle.machine_laws.proofs.FittingLemmas.{touches_changed}
use Rattle.machine_stage.proofs.moving.step_uncounted.Goals as goal

-- what holds if nothing changed
unmoved : (result : Bool) (P Q : Type 0) → OnTrue result (¬ P) → OnFalse result Q → P → Q
unmoved true P Q changed rested same = absurd (changed same)
unmoved false P Q changed rested same = rested

pub returns-clause-step : goal.returns-clause-step
returns-clause-step g c =
    let old = c.args.machine.now in
    let new = c.step_listed.new.self in
    let step = c.step_listed.ensures in
    record {
      step = step.step c.requires.fits;
      fits = step.fits c.requires.fits;
      moved = search rules;
      rested = unmoved c.step_listed.result (new.state ≡ old.state) (new.moves ≡ old.moves) step.changed step.rested;
      placed = step.placed;
      last = step.advances.last;
      marks = λ k marked.
          subst (λ (parts : List MachinePart). ReadsChange parts old.state new.state k ⊎ IsStale parts k) (sym step.advances.parts)
          (elim (step.advances.marks.only k marked) [ inl stays ↦ inr stays.1 | inr reads ↦ inl reads ]);
      touched = touches_changed old new step.advances;
    }
