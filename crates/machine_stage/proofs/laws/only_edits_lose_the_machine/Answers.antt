-- Each command that is no edit says of the machine that is there that it is there still.
use Rattle.std.proofs.Common.{◌≡◌, ℕ, List, true, Option, None, Some, is_some, refl, sym, ◌∙◌}
use Rattle.ternary.specs.declared.tern.Tern.{Tern}
use Rattle.machine_laws.specs.Machines.{MachineData}
use Rattle.script_lang.specs.declared.command.Command.{Command}
use Rattle.script_lang.specs.declared.command.Command.TheVariants as family
use Rattle.script_lang.specs.declared.command.Give.{Give}
use Rattle.script_lang.specs.declared.command.Give.TheVariants.{Set, Charge, Back}
use Rattle.script_lang.specs.declared.command.Run.{Run}
use Rattle.script_lang.specs.declared.command.Run.TheVariants.{Step, Phase, Cycle, Report}
use Rattle.session_meaning.specs.Sessions.{HeldSession}
use Rattle.session_meaning.specs.Preparing.{edits}
use Rattle.machine_stage.specs.Machines.{StageData, PlacesIn, PlacesOthersIn, GivesMachine, RunsMachine, IsMachineAfter}
use Rattle.machine_stage.proofs.laws.only_edits_lose_the_machine.Goals as goal

-- none is there, and one is
none_there : (found : Option MachineData) (machine : MachineData) → found ≡ Some machine → found ≡ None → ⊥
none_there found machine there none =
    let same : Some machine ≡ None = sym there ∙ none in
    absurd (cc)

-- one was there, and it stays
lost : (old new : Option MachineData) → new ≡ old → is_some old ≡ true → new ≡ None → ⊥
lost None new same some none = absurd (cc)
lost (Some machine) new same some none = none_there new machine same none

-- one was there, and nodes were placed in it
placed_lost : (given : List ℕ) (old new : Option MachineData) → PlacesIn given old new → is_some old ≡ true → new ≡ None → ⊥
placed_lost given None new places some none = absurd (cc)
placed_lost given (Some machine) new places some none = none_there new places.machine places.there none

-- so it is where the nodes whose states differ were
others_lost : (before after : List Tern) (old new : Option MachineData) → PlacesOthersIn before after old new → is_some old ≡ true → new ≡ None → ⊥
others_lost before after None new places some none = absurd (cc)
others_lost before after (Some machine) new places some none = none_there new places.machine places.there none

by_give : (old new : HeldSession StageData) (give : Give) → GivesMachine old give new → is_some old.stage.machine ≡ true → new.stage.machine ≡ None → ⊥
by_give old new (Set list) after some none = placed_lost _ old.stage.machine new.stage.machine after.0 some none
by_give old new (Charge list) after some none = placed_lost _ old.stage.machine new.stage.machine after some none
by_give old new (Back name) after some none = others_lost old.core.state new.core.state old.stage.machine new.stage.machine after some none

by_run : (old new : HeldSession StageData) (run : Run) → RunsMachine old run new → new.stage.machine ≡ None → ⊥
by_run old new Step after none = none_there new.stage.machine after.machine after.there none
by_run old new Phase after none = none_there new.stage.machine after.moves.machine after.moves.there none
by_run old new (Cycle times) after none = none_there new.stage.machine after.moves.machine after.moves.there none
by_run old new Report after none = none_there new.stage.machine after.machine after.there none

by_command : (old new : HeldSession StageData) (command : Command) → IsMachineAfter old command new → is_some old.stage.machine ≡ true → new.stage.machine ≡ None →
    edits command ≡ true
by_command old new (family.Edit edit) after some none = refl
by_command old new (family.Give give) after some none = absurd (by_give old new give after some none)
by_command old new (family.Setup setup) after some none = absurd (lost old.stage.machine new.stage.machine after some none)
by_command old new (family.Run run) after some none = absurd (by_run old new run after none)
by_command old new (family.Tell tell) after some none = absurd (lost old.stage.machine new.stage.machine after some none)

pub returns : goal.returns
returns c = by_command
