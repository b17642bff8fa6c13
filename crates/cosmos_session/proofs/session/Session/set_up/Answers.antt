-- What is neither a bound nor a name for states is the same in each column.
use Rattle.std.proofs.Common.{◌≢◌, ℕ, List, refl}
use Rattle.script_lang.specs.declared.command.Setup.{Setup}
use Rattle.script_lang.specs.declared.command.Setup.TheVariants.{Clock, Keep, Limit, Save, Vector, Watch, Widen}
use Rattle.column_script.specs.Commands.{IsSharedSetup}
use Rattle.cosmos_session.proofs.session.Session.set_up.Goals as goal

shared_setup : (setup : Setup) → ((number : ℕ) → setup ≢ Keep number) → ((name : List ℕ) → setup ≢ Save name) → IsSharedSetup setup
shared_setup (Watch names) unbound unnamed = tt
shared_setup (Limit number) unbound unnamed = tt
shared_setup (Clock list) unbound unnamed = tt
shared_setup (Keep number) unbound unnamed = absurd (unbound number refl)
shared_setup (Widen number) unbound unnamed = tt
shared_setup (Save name) unbound unnamed = absurd (unnamed name refl)
shared_setup (Vector name words) unbound unnamed = tt

pub set_up_alike-requires : goal.set_up_alike-requires
set_up_alike-requires g c = (c.requires, shared_setup c.args.setup.now c.in_default.not-Keep c.in_default.not-Save)
