-- The switches so far stand between the local nodes.
use Rattle.std.proofs.Common.{◌≡◌, map, take}
use Rattle.std.specs.Prelude.{option_map}
use Rattle.switch_paths.specs.Graphs.{place_at}
use Rattle.group_text.specs.Texts.{local_switch}
use Rattle.group_text.proofs.local.add_switches.Given as goal

abbrev pub invariant-loop-place : goal.invariant-loop-place
invariant-loop-place l =
    l.local ≡ record l.initial.local {
      places = map (λ place. option_map (local_switch l.locals.keys) (place_at l.graph.places place))
          (take l.place-index l.switches);
    }
