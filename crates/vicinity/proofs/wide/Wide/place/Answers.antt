-- The graph stays, and what is placed is placed in it.
use Rattle.std.proofs.Common.{refl}
use Rattle.vicinity.proofs.wide.Wide.place.Goals as goal

pub returns-clause-places : goal.returns-clause-places
returns-clause-places c =
    rw (← c.self.view_is) (record {
      stays = record { large = refl; graph = refl };
      live = c.place_awake.ensures.lists;
      group = c.place_awake.ensures.group;
      only = c.place_awake.ensures.only;
    })
