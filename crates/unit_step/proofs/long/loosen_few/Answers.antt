-- One part more loses its code or keeps it.
use Rattle.std.proofs.Common.{◌<◌, get_or, length, arith}
use Rattle.std.proofs.lemmas.Option.{slice_get-get_or}
use Rattle.unit_step.proofs.LongLemmas.{Loosens-same, Loosens-set}
use Rattle.unit_step.proofs.long.loosen_few.Goals as goal

pub loop-place-init : goal.loop-place-init
loop-place-init c = record { loosens = Loosens-same c.args.parts.now }

pub loop-place-preserved : goal.loop-place-preserved
loop-place-preserved c =
    let parts = c.loop-place.parts in
    let place = c.loop-place.place in
    let loosens = c.loop-place.invariant.loosens in
    let within : place < length parts = omega (arith, c.loop-place-test.true, loosens.count) in
    let default = c.index-parts-place-in-loop-place.result in
    let part = get_or parts place default in
    record {
      loosens = Loosens-set c.args.parts.now parts place part c.loosen_if.new.part (slice_get-get_or parts place default within) c.loosen_if.ensures.loosens loosens;
    }
