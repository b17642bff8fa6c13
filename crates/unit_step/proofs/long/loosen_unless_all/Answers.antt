-- If all are to have their codes, none loses its own; else one part more loses its code or keeps it.
use Rattle.std.proofs.Common.{◌≡◌, ℕ, ◌<◌, Vec, Global, get_or, length, refl, sym, subst, ◌∙◌, arith, true≢false}
use Rattle.std.specs.Prelude.{slice_index}
use Rattle.std.proofs.lemmas.List.{get_or_default}
use Rattle.std.proofs.lemmas.Option.{slice_get-get_or}
use Rattle.machine_parts.specs.declared.part.MachinePart.{MachinePart}
use Rattle.wide_groups.specs.Staying.{HoldsNode}
use Rattle.unit_step.proofs.LongLemmas.{same_map, none_holds, Loosens-same, Loosens-set, up_to-set}
use Rattle.unit_step.proofs.long.loosen_unless_all.Goals as goal

pub returns-then-have_all-clause-loosens : goal.returns-then-have_all-clause-loosens
returns-then-have_all-clause-loosens c = Loosens-same c.args.parts.now

pub returns-then-have_all-clause-held : goal.returns-then-have_all-clause-held
returns-then-have_all-clause-held c = λ i part at holds. absurd (none_holds c.args.wide.now (c.have_all.ensures.0 c.if-have_all.true).1 _ holds)

pub returns-then-have_all-clause-all : goal.returns-then-have_all-clause-all
returns-then-have_all-clause-all c = λ all none. refl

pub loop-place-init : goal.loop-place-init
loop-place-init c = record { loosens = Loosens-same c.args.parts.now; held = λ i part below at holds. absurd (omega (arith, below)) }

-- the next part has a node, as it had
pub goes_without-loose-requires : goal.goes_without-loose-requires
goes_without-loose-requires c =
    let old = c.args.parts.now in
    let parts = c.loop-place.parts in
    let place = c.loop-place.place in
    let loosens = c.loop-place.invariant.loosens in
    let inside : place < length old = omega (arith, c.loop-place-test.true) in
    let within : place < length parts = omega (arith, inside, loosens.count) in
    let part = get_or parts place c.index-parts-place.result in
    let at = slice_get-get_or parts place c.index-parts-place.result within in
    let was = get_or old place part in
    let map_is : part.map ≡ was.map = same_map was part (loosens.each place was part (slice_get-get_or old place part inside) at) in
    subst (λ (map : Vec ℕ Global). 0 < length map.items) (sym map_is) (c.requires.some place part inside)

pub loop-place-preserved : goal.loop-place-preserved
loop-place-preserved c =
    let parts = c.loop-place.parts in
    let place = c.loop-place.place in
    let wide = c.args.wide.now in
    let loosens = c.loop-place.invariant.loosens in
    let within : place < length parts = omega (arith, c.loop-place-test.true, loosens.count) in
    let default = c.index-parts-place-in-loop-place.result in
    let part = get_or parts place default in
    let at = slice_get-get_or parts place default within in
    let same : part ≡ get_or parts place c.index-parts-place.result = get_or_default parts place default c.index-parts-place.result within in
    record {
      loosens = Loosens-set c.args.parts.now parts place part c.loosen_if.new.part at c.loosen_if.ensures.loosens loosens;
      held = up_to-set wide place parts part c.loosen_if.new.part at c.loosen_if.ensures.loosens
          (λ holds. c.loosen_if.ensures.code (c.goes_without-loose.ensures
          (subst (λ (one : MachinePart). HoldsNode wide (slice_index one.map.items 0)) same holds))) c.loop-place.invariant.held;
    }

pub returns-clause-all : goal.returns-clause-all
returns-clause-all c = λ all none. absurd (true≢false (sym (c.have_all.ensures.1 (all, none)) ∙ c.if-have_all.false))
