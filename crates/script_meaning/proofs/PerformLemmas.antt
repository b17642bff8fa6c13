-- A command that is performed isn't refused, neither by the data nor for the size of a group.
use Rattle.std.proofs.Common.{◌≡◌, Bool, true, false, List, None, refl, sym, subst, ◌∙◌}
use Rattle.group_text.specs.Texts.{GroupTextData}
use Rattle.circuit_texts.specs.declared.texts.BuildFault.{BuildFault}
use Rattle.circuit_texts.specs.Sizes.{TellsRefused}
use Rattle.told_lines.specs.Lines.{Line}
use Rattle.script_lang.specs.declared.command.Command.{Command}
use Rattle.session_meaning.specs.Sessions.{SessionData}
use Rattle.session_meaning.specs.Refusals.{refusal_of}
use Rattle.session_meaning.specs.Preparing.{builds, with_present, IsBuild, BuildsIf}
use Rattle.session_meaning.specs.Outcomes.{Performs}
use Rattle.run_ends.proofs.SizeLemmas.{not_both}

-- what is kept and counted is read by no refusal
refusal-with_present : (session : SessionData) (present : List GroupTextData) (command : Command) →
    refusal_of (with_present session present) command ≡ refusal_of session command
refusal-with_present session present _ = refl

-- so a build changes no refusal
refusal-built : (building : Bool) (old mid : SessionData) (texts : List GroupTextData) (command : Command) → BuildsIf building old mid texts →
    refusal_of mid command ≡ refusal_of old command
refusal-built true old mid texts command built =
    subst (λ (session : SessionData). refusal_of session command ≡ refusal_of old command) (sym built.used) (refusal-with_present old built.present command)
refusal-built false old mid texts command (same, none) =
    subst (λ (session : SessionData). refusal_of session command ≡ refusal_of old command) (sym same) refl

-- a command that is performed isn't refused
pub performs-allowed : (old new : SessionData) (command : Command) (lines : List Line) (texts : List GroupTextData) → Performs old command new lines texts →
    refusal_of old command ≡ None
performs-allowed old new command lines texts performs =
    sym (refusal-built (builds command) old performs.mid texts command performs.prepares) ∙ performs.does.allowed

-- nor is its circuit too large
pub performs-fits : (old new : SessionData) (command : Command) (lines : List Line) (texts : List GroupTextData) (fault : BuildFault) →
    Performs old command new lines texts → builds command ≡ true → ¬ TellsRefused old.large old.circuit.graph fault
performs-fits old new command lines texts fault performs is told =
    let built : IsBuild old performs.mid texts = subst (λ building. BuildsIf building old performs.mid texts) is performs.prepares in
    not_both old.large old.circuit.graph fault built.present told built.has
