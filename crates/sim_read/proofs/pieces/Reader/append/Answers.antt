use Rattle.std.proofs.Common.{◌∙◌, ◌≡◌, ap, arith, length, min, ◌-◌}
use Rattle.sim_read.specs.declared.pieces.TheConstants.{MOST_HELD}
use Rattle.sim_read.proofs.StandingLemmas.{appends}
use Rattle.sim_read.proofs.pieces.Reader.append.Goals as goal

pub returns : goal.returns
returns c =
    let len : c.len.result ≡ length c.self.inside.held.items = omega arith in
    appends c.extend_from_slice.result _ c.args.self.now c.args.part.now c.extend_from_slice.new.self.items c.min-room.result c.self.view_is
    c.self.invariant.0 (c.min-room.ensures ∙ ap (λ n. min (length c.args.part.now) (MOST_HELD - n)) len) c.extend_from_slice.ensures.items
