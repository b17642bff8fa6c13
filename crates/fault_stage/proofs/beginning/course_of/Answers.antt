-- The run begins where the good one began, or the machine goes by itself.
use Rattle.std.proofs.Common.{◌≡◌, Option, length, refl, sym, ap, subst, ◌∙◌}
use Rattle.std.specs.Prelude.{IfSome}
use Rattle.std.proofs.lemmas.Bool.{OnTrue_at}
use Rattle.switch_paths.specs.Rails.{IsSound}
use Rattle.vicinity.specs.NodeSets.{NodeSetData}
use Rattle.good_run.specs.Recording.{RunData}
use Rattle.fault_stage.specs.Runs.{IsTouched}
use Rattle.fault_stage.proofs.beginning.course_of.Goals as goal

pub returns-in_default-clause-goes : goal.returns-in_default-clause-goes
returns-in_default-clause-goes c = record { fits = c.requires.fits; state_is = c.requires.state }

pub returns-in_default-clause-build : goal.returns-in_default-clause-build
returns-in_default-clause-build c = record { groups = refl; last = refl; spare = refl }

pub returns-in_default-clause-held : goal.returns-in_default-clause-held
returns-in_default-clause-held c = record { parts = refl; uses = refl; texts = refl }

pub returns-then-not-starts_right-clause-goes : goal.returns-then-not-starts_right-clause-goes
returns-then-not-starts_right-clause-goes c = record { fits = c.requires.fits; state_is = c.requires.state }

pub returns-then-not-starts_right-clause-build : goal.returns-then-not-starts_right-clause-build
returns-then-not-starts_right-clause-build c = record { groups = refl; last = refl; spare = refl }

pub returns-then-not-starts_right-clause-held : goal.returns-then-not-starts_right-clause-held
returns-then-not-starts_right-clause-held c = record { parts = refl; uses = refl; texts = refl }

pub begun_in-requires : goal.begun_in-requires
begun_in-requires c =
    let start : c.start.result.now ≡ c.args.good.now.run.start = c.start.ensures ∙ ap (λ (run : RunData). run.start) c.run.ensures in
    record {
      fits = c.requires.fits;
      state = c.requires.state;
      counted = sym (ap length start) ∙ OnTrue_at c.if-not-starts_right.false c.starts_right.ensures.counted;
      sound = subst IsSound start (OnTrue_at c.if-not-starts_right.false c.starts_right.ensures.sound);
      touched = subst (λ (found : Option NodeSetData). IfSome found (IsTouched c.args.good.now.graph c.args.graph.now c.args.machine.now)) c.in-Some.is
          c.requires.touched;
    }
