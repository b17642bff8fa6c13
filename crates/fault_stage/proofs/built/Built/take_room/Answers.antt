-- The state stays, in more room.
use Rattle.std.proofs.Common.{◌∙◌, List, length, refl, sym, ap, subst}
use Rattle.ternary.specs.declared.tern.Tern.{Tern}
use Rattle.switch_paths.specs.Rails.{IsSound}
use Rattle.fault_stage.specs.Runs.{GoesIn}
use Rattle.fault_stage.proofs.built.Built.take_room.Goals as goal

pub returns-clause-built : goal.returns-clause-built
returns-clause-built c =
    let b = c.args.self.now in
    let same = c.room_in.ensures.state in
    record {
      counted = ap length same ∙ c.requires.counted;
      railed = c.requires.railed;
      sound = subst IsSound (sym same) c.requires.sound;
      known = c.requires.known;
      goes = subst (λ (s : List Tern). GoesIn b.good b.graph b.machine s b.course) (sym same) c.requires.goes;
      passes = c.requires.passes;
      apart = c.requires.apart;
    }

pub returns-clause-same : goal.returns-clause-same
returns-clause-same c = rw c.room_in.ensures.state refl
