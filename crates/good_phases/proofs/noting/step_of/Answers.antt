-- A joining step, or a plain one.
use Rattle.std.proofs.Common.{List, sym, ap, subst}
use Rattle.std.specs.Prelude.{Bool}
use Rattle.group_text.specs.Texts.{GroupTextData}
use Rattle.run_beside.specs.Agreeing.{IsMove}
use Rattle.good_phases.proofs.noting.step_of.Goals as goal

pub returns-then-joining-clause-fits : goal.returns-then-joining-clause-fits
returns-then-joining-clause-fits g c = c.join_step_listed.ensures.fits c.requires

pub returns-then-joining-clause-last : goal.returns-then-joining-clause-last
returns-then-joining-clause-last g c = ap (λ (fixed : List GroupTextData × Bool). fixed.0) c.join_step_listed.ensures.fixed

pub returns-then-joining-clause-moves : goal.returns-then-joining-clause-moves
returns-then-joining-clause-moves g c =
    subst (λ kind. IsMove kind c.args.graph.now c.args.machine.now.state c.join_step_listed.new.self.state) (sym c.if-joining.true)
    (c.join_step_listed.ensures.step c.requires)

pub returns-clause-fits : goal.returns-clause-fits
returns-clause-fits g c = c.step_listed.ensures.fits c.requires

pub returns-clause-last : goal.returns-clause-last
returns-clause-last g c = ap (λ (fixed : List GroupTextData × Bool). fixed.0) c.step_listed.ensures.fixed

pub returns-clause-moves : goal.returns-clause-moves
returns-clause-moves g c =
    subst (λ kind. IsMove kind c.args.graph.now c.args.machine.now.state c.step_listed.new.self.state) (sym c.if-joining.false)
    (c.step_listed.ensures.step c.requires)
