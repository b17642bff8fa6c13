-- What the switch does is told by the rails of its gate.
use Rattle.std.proofs.Common.{◌≡◌, Bool, true, false, List, Result, refl, sym, ◌∙◌}
use Rattle.std.proofs.lemmas.Result.{IfOk-weaker}
use Rattle.std.specs.Result.{IfOk}
use Rattle.switch_paths.specs.Spread.{passes}
use Rattle.switch_paths.specs.Graphs.{Fits, nodes}
use Rattle.bool_pool.specs.declared.gate.Gate.{Gate}
use Rattle.bool_pool.specs.declared.gate.Id.{Id}
use Rattle.bool_pool.specs.declared.gate.Rails.{Rails}
use Rattle.bool_pool.specs.Gate.{Extends}
use Rattle.dual_rail.specs.Conduct.{Tells}
use Rattle.node_elimination.specs.Growth.{place_of}
use Rattle.node_elimination.specs.Inputs.{IsPass}
use Rattle.node_elimination.proofs.InputLemmas.{AreInside-rails, IsPass-tells, IsPass-empty}
use Rattle.node_elimination.proofs.inputs.pass_of.Given as given
use Rattle.node_elimination.proofs.inputs.pass_of.Goals.{In-Some}
use Rattle.node_elimination.proofs.inputs.pass_of.Goals as goal

-- a switch stands there
module _ (g : given.Over) (c : In-Some g) where
  fits : Fits (nodes c.args.graph.now) c.in-Some.switch
  fits = rw c.in-Some.is at c.switch_at.ensures.fits

  -- what is told of it is its pass
  told : {E : Type 0} (sure : Bool) (after : List Gate) (gate : Rails) (result : Result Id E) →
      gate.hi.place ≡ place_of c.args.hi.now c.in-Some.switch.gate → gate.lo.place ≡ place_of c.args.lo.now c.in-Some.switch.gate →
      Extends c.args.pool.now after → IfOk result (λ pass. Tells (passes sure) c.args.pool.now after c.in-Some.switch.kind gate pass.place) →
      IfOk result (λ pass. IsPass c.args.graph.now sure c.args.pool.now c.args.hi.now c.args.lo.now c.args.place after pass.place)
  told sure after gate result is_hi is_lo extends =
      IfOk-weaker result _ _
      (λ pass. IsPass-tells c.args.graph.now sure c.args.pool.now after c.args.hi.now c.args.lo.now c.args.place c.in-Some.switch gate
      pass.place (sym c.switch_at.ensures.value ∙ c.in-Some.is) c.requires.hi c.requires.lo fits.gate is_hi is_lo extends)

pub closed-requires : goal.closed-requires
closed-requires g c =
    AreInside-rails c.args.graph.now c.args.pool.now c.args.hi.now c.args.lo.now c.in-Some.switch.gate c.requires.formulas
    c.requires.hi c.requires.lo (fits g (goal.at.closed-requires g c).In-Some).gate

pub may_conduct-requires : goal.may_conduct-requires
may_conduct-requires g c =
    AreInside-rails c.args.graph.now c.args.pool.now c.args.hi.now c.args.lo.now c.in-Some.switch.gate c.requires.formulas
    c.requires.hi c.requires.lo (fits g (goal.at.may_conduct-requires g c).In-Some).gate

pub returns-in-None-clause-pass : goal.returns-in-None-clause-pass
returns-in-None-clause-pass g c =
    IsPass-empty c.args.graph.now c.args.sure c.args.pool.now c.args.hi.now c.args.lo.now c.args.place c.args.falsehood
    (sym c.switch_at.ensures.value ∙ c.in-None.is) c.requires.falsehood

pub returns-then-sure-clause-pass : goal.returns-then-sure-clause-pass
returns-then-sure-clause-pass g c =
    rw c.if-sure.true
    (told g (goal.at.returns-then-sure-clause-pass g c).In-Some true c.closed.new.pool _ c.closed.result refl refl
    c.closed.ensures.extends c.closed.ensures.tells)

pub returns-else-sure-clause-pass : goal.returns-else-sure-clause-pass
returns-else-sure-clause-pass g c =
    rw c.if-sure.false
    (told g (goal.at.returns-else-sure-clause-pass g c).In-Some false c.may_conduct.new.pool _ c.may_conduct.result refl refl
    c.may_conduct.ensures.extends c.may_conduct.ensures.tells)
