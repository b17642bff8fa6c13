-- Commands keep data alike but for states, and have the same texts analysed: what they change besides is by what is alike.
use Rattle.std.proofs.Common.{◌≡◌, ℕ, Bool, true, false, List, [], ◌∷◌, ◌++◌, length, map, Option, refl, sym, ap, ap₂, subst, ◌∙◌, if◌then◌else◌}
use Rattle.std.specs.Prelude.{bytes_eq}
use Rattle.ternary.specs.declared.tern.Tern.{Tern}
use Rattle.ternary.specs.Counts.{raised}
use Rattle.netlist.specs.Circuits.{CircuitData}
use Rattle.group_text.specs.Texts.{GroupTextData}
use Rattle.group_text.specs.FirstTexts.{new_texts}
use Rattle.group_analysis.specs.Using.{kept_after}
use Rattle.circuit_texts.specs.Building.{HasTexts}
use Rattle.script_lang.specs.declared.value.Value.{Value}
use Rattle.script_lang.specs.declared.command.Command.{Command}
use Rattle.script_lang.specs.declared.command.Command.TheVariants as family
use Rattle.script_lang.specs.declared.command.Give.TheVariants as give
use Rattle.script_lang.specs.declared.command.Setup.{Setup}
use Rattle.script_lang.specs.declared.command.Setup.TheVariants.{Watch, Limit, Clock, Keep, Widen, Save, Vector}
use Rattle.script_lang.specs.declared.command.Run.{Run}
use Rattle.script_lang.specs.declared.command.Run.TheVariants.{Step, Phase, Cycle, Report}
use Rattle.script_lang.specs.declared.command.Tell.TheVariants as tell
use Rattle.node_words.specs.Vectors.{with_vector}
use Rattle.told_lines.specs.Lines.{Line}
use Rattle.session_meaning.specs.Saves.{with_save}
use Rattle.session_meaning.specs.Sessions.{ClockData, SessionData, places_of}
use Rattle.session_meaning.specs.Refusals.{all_named}
use Rattle.session_meaning.specs.Preparing.{builds, with_present, BuildsIf}
use Rattle.session_meaning.specs.Effects.{AreBeats, Effect, RunEffect, circuit_after, clock_of, moved_to, one_more, places_in, setup_after, with_beat}
use Rattle.session_meaning.specs.Outcomes.{Performs}
use Rattle.session_meaning.proofs.UniqueBuilds.{HasTexts-unique}
use Rattle.symbol_meaning.specs.Laws.{AlikeButStates}
use Rattle.symbol_outcomes.proofs.ReadLemmas.{IsToldTogether}

-- commands that one line asks for under two valuations: one, or two that are given values by the same verb
pub data AreOneLine : Command → Command → Type 0 where
  plain : (command : Command) → IsToldTogether command → AreOneLine command command
  sets : (one other : List (List ℕ × Value)) → AreOneLine (family.Give (give.Set one)) (family.Give (give.Set other))
  charges : (one other : List (List ℕ × Value)) → AreOneLine (family.Give (give.Charge one)) (family.Give (give.Charge other))
  expects : (one other : List (List ℕ × Value)) → AreOneLine (family.Tell (tell.Expect one)) (family.Tell (tell.Expect other))

-- ---- data

abbrev pub KeptStates : Type 0
KeptStates = List (List ℕ × List Tern)

abbrev pub names_of : KeptStates → List (List ℕ)
names_of saves = map (λ (save : List ℕ × List Tern). save.0) saves

-- data are alike by these equations
pub alike_by : {one two : SessionData} → two.circuit ≡ one.circuit → two.watched ≡ one.watched → two.clocks ≡ one.clocks → two.limit ≡ one.limit →
    two.count ≡ one.count → two.vectors ≡ one.vectors → names_of two.saves ≡ names_of one.saves → two.bound ≡ one.bound → two.large ≡ one.large →
    two.kept ≡ one.kept → two.fresh ≡ one.fresh → AlikeButStates one two
alike_by circuit watched clocks limit count vectors saves bound large kept fresh = record {
  circuit = circuit;
  watched = watched;
  clocks = clocks;
  limit = limit;
  count = count;
  vectors = vectors;
  saves = saves;
  bound = bound;
  large = large;
  kept = kept;
  fresh = fresh;
}

-- data that are as others
alike_as : (one two a b : SessionData) → one ≡ a → two ≡ b → AlikeButStates a b → AlikeButStates one two
alike_as one two a b first second alike =
    subst (λ (own : SessionData). AlikeButStates own two) (sym first) (subst (λ (other : SessionData). AlikeButStates a other) (sym second) alike)

-- other states
alike_states : (one two : SessionData) (s t : List Tern) → AlikeButStates one two → AlikeButStates (record one { state = s }) (record two { state = t })
alike_states one two s t alike =
    alike_by alike.circuit alike.watched alike.clocks alike.limit alike.count alike.vectors alike.saves alike.bound alike.large alike.kept alike.fresh

-- another circuit
alike_circuits : (one two : SessionData) (c d : CircuitData) (s t : List Tern) → d ≡ c → AlikeButStates one two →
    AlikeButStates (record one { circuit = c; state = s }) (record two { circuit = d; state = t })
alike_circuits one two c d s t same alike =
    alike_by same alike.watched alike.clocks alike.limit alike.count alike.vectors alike.saves alike.bound alike.large alike.kept alike.fresh

-- whether an expectation wasn't met
alike_missed : (one two : SessionData) (m n : Bool) → AlikeButStates one two → AlikeButStates (record one { missed = m }) (record two { missed = n })
alike_missed one two m n alike =
    alike_by alike.circuit alike.watched alike.clocks alike.limit alike.count alike.vectors alike.saves alike.bound alike.large alike.kept alike.fresh

-- a waveform line more
alike_moved : (one two : SessionData) (s t : List Tern) → AlikeButStates one two → AlikeButStates (moved_to one s) (moved_to two t)
alike_moved one two s t alike =
    alike_by alike.circuit alike.watched alike.clocks alike.limit (ap one_more alike.count) alike.vectors alike.saves alike.bound alike.large
    alike.kept alike.fresh

-- a report's count
alike_reported : (one two : SessionData) → AlikeButStates one two → AlikeButStates (record one { fresh = 0 }) (record two { fresh = 0 })
alike_reported one two alike =
    alike_by alike.circuit alike.watched alike.clocks alike.limit alike.count alike.vectors alike.saves alike.bound alike.large alike.kept refl

-- texts of a build
alike_present : (one two : SessionData) (present : List GroupTextData) → AlikeButStates one two → AlikeButStates (with_present one present) (with_present two present)
alike_present one two present alike =
    alike_by alike.circuit alike.watched alike.clocks alike.limit alike.count alike.vectors alike.saves alike.bound alike.large
    (ap₂ (λ (bound : Option ℕ) (kept : List GroupTextData). kept_after bound present kept) alike.bound alike.kept)
    (ap₂ (λ (fresh : ℕ) (kept : List GroupTextData). raised fresh (length (new_texts kept present))) alike.fresh alike.kept)

-- ---- what is set

-- states that are kept under the same name
saves-alike : (one other : KeptStates) (name : List ℕ) (s t : List Tern) → names_of other ≡ names_of one →
    names_of (with_save other name t) ≡ names_of (with_save one name s)
saves-alike [] [] name s t same = refl
saves-alike [] (save ∷ other) name s t same = absurd (cc)
saves-alike (save ∷ one) [] name s t same = absurd (cc)
saves-alike (save ∷ one) (more ∷ other) name s t same =
    let first : more.0 ≡ save.0 = cc in
    let rest : names_of other ≡ names_of one = cc in
    ap (λ (own : List ℕ). names_of (if bytes_eq name own then (name, t) ∷ other else more ∷ with_save other name t)) first
    ∙ by (bytes_eq name save.0) first rest (saves-alike one other name s t rest)
  where
    by : (test : Bool) → more.0 ≡ save.0 → names_of other ≡ names_of one → names_of (with_save other name t) ≡ names_of (with_save one name s) →
        names_of (if test then (name, t) ∷ other else more ∷ with_save other name t)
        ≡ names_of (if test then (name, s) ∷ one else save ∷ with_save one name s)
    by true first rest later = ap (λ (names : List (List ℕ)). name ∷ names) rest
    by false first rest later = ap₂ (λ (own : List ℕ) (names : List (List ℕ)). own ∷ names) first later

alike-setup : (setup : Setup) (one two : SessionData) → AlikeButStates one two → AlikeButStates (setup_after one setup) (setup_after two setup)
alike-setup (Watch names) one two alike =
    alike_by alike.circuit
    (ap₂ (λ (front rest : List ℕ). front ++ rest) alike.watched (ap₂ (λ (c : CircuitData) (vectors : List (List ℕ × List ℕ)). all_named c vectors names) alike.circuit alike.vectors))
    alike.clocks alike.limit alike.count alike.vectors alike.saves alike.bound alike.large alike.kept alike.fresh
alike-setup (Limit number) one two alike =
    alike_by alike.circuit alike.watched alike.clocks refl alike.count alike.vectors alike.saves alike.bound alike.large alike.kept alike.fresh
alike-setup (Clock list) one two alike =
    alike_by alike.circuit alike.watched (ap (λ (c : CircuitData). map (clock_of c) list) alike.circuit) alike.limit alike.count alike.vectors
    alike.saves alike.bound alike.large alike.kept alike.fresh
alike-setup (Keep number) one two alike =
    alike_by alike.circuit alike.watched alike.clocks alike.limit alike.count alike.vectors alike.saves refl alike.large alike.kept alike.fresh
alike-setup (Widen number) one two alike =
    alike_by alike.circuit alike.watched alike.clocks alike.limit alike.count alike.vectors alike.saves alike.bound refl alike.kept alike.fresh
alike-setup (Save name) one two alike =
    alike_by alike.circuit alike.watched alike.clocks alike.limit alike.count alike.vectors
    (saves-alike one.saves two.saves name one.state two.state alike.saves) alike.bound alike.large alike.kept alike.fresh
alike-setup (Vector name words) one two alike =
    alike_by alike.circuit alike.watched alike.clocks alike.limit alike.count
    (ap₂ (λ (c : CircuitData) (vectors : List (List ℕ × List ℕ)). with_vector c vectors name words) alike.circuit alike.vectors) alike.saves
    alike.bound alike.large alike.kept alike.fresh

-- ---- what is run

-- a phase from clocks' states
pub alike-beat : (one two mid behind : SessionData) (place : ℕ) (s t : List Tern) → mid ≡ moved_to (with_beat one place) s → behind ≡ moved_to (with_beat two place) t →
    AlikeButStates one two → AlikeButStates mid behind
alike-beat one two mid behind place s t first second alike =
    alike_as mid behind (moved_to (with_beat one place) s) (moved_to (with_beat two place) t) first second
    (alike_moved (with_beat one place) (with_beat two place) s t
    (alike_states one two (with_beat one place).state (with_beat two place).state alike))

alike-beats : (places : List ℕ) (one two new later : SessionData) (lines more : List Line) → AreBeats one places new lines → AreBeats two places later more →
    AlikeButStates one two → AlikeButStates new later
alike-beats [] one two new later lines more (same, none) (also, nothing) alike = alike_as new later one two same also alike
alike-beats (place ∷ places) one two new later lines more (mid, front, back, phase, beats, whole) (behind, first, rest, settled, others, parts) alike =
    alike-beats places mid behind new later back rest beats others
    (alike-beat one two mid behind place phase.next settled.next phase.moved settled.moved alike)

-- phases at places of the clocks of the one
pub places_alike : (one two later : SessionData) (times : ℕ) (more : List Line) → AlikeButStates one two →
    AreBeats two (places_in (places_of two.clocks) times) later more → AreBeats two (places_in (places_of one.clocks) times) later more
places_alike one two later times more alike beats =
    subst (λ (clocks : List ClockData). AreBeats two (places_in (places_of clocks) times) later more) alike.clocks beats

alike-run : (run : Run) (one two new later : SessionData) (lines more : List Line) → RunEffect one run new lines → RunEffect two run later more →
    AlikeButStates one two → AlikeButStates new later
alike-run Step one two new later lines more first second alike =
    alike_as new later (moved_to one first.next) (moved_to two second.next) first.moved second.moved (alike_moved one two first.next second.next alike)
alike-run Phase one two new later lines more first second alike =
    alike_as new later (moved_to one first.next) (moved_to two second.next) first.moved second.moved (alike_moved one two first.next second.next alike)
alike-run (Cycle times) one two new later lines more first second alike =
    alike-beats (places_in (places_of one.clocks) times) one two new later lines more first (places_alike one two later times more alike second) alike
alike-run Report one two new later lines more first second alike =
    alike_as new later (record one { fresh = 0 }) (record two { fresh = 0 }) first.moved second.moved (alike_reported one two alike)

-- ---- all commands

alike-plain : (command : Command) (one two new later : SessionData) (lines more : List Line) → Effect one command new lines → Effect two command later more →
    AlikeButStates one two → AlikeButStates new later
alike-plain (family.Edit edit) one two new later lines more first second alike =
    alike_as new later _ _ first.0 second.0
    (alike_circuits one two (circuit_after one.circuit one.vectors edit) (circuit_after two.circuit two.vectors edit) _ _
    (ap₂ (λ (c : CircuitData) (vectors : List (List ℕ × List ℕ)). circuit_after c vectors edit) alike.circuit alike.vectors) alike)
alike-plain (family.Give own) one two new later lines more first second alike =
    alike_as new later _ _ first.0 second.0 (alike_states one two _ _ alike)
alike-plain (family.Setup setup) one two new later lines more first second alike =
    alike_as new later (setup_after one setup) (setup_after two setup) first.0 second.0 (alike-setup setup one two alike)
alike-plain (family.Run run) one two new later lines more first second alike = alike-run run one two new later lines more first second alike
alike-plain (family.Tell own) one two new later lines more first second alike =
    alike_as new later _ _ first.0 second.0 (alike_missed one two _ _ alike)

alike-effect : (command other : Command) → AreOneLine command other → (one two new later : SessionData) (lines more : List Line) → Effect one command new lines →
    Effect two other later more → AlikeButStates one two → AlikeButStates new later
alike-effect command other (plain _ together) one two new later lines more first second alike = alike-plain command one two new later lines more first second alike
alike-effect command other (sets _ _) one two new later lines more first second alike =
    alike_as new later _ _ first.0 second.0 (alike_states one two _ _ alike)
alike-effect command other (charges _ _) one two new later lines more first second alike =
    alike_as new later _ _ first.0 second.0 (alike_states one two _ _ alike)
alike-effect command other (expects _ _) one two new later lines more first second alike =
    alike_as new later _ _ first.0 second.0 (alike_missed one two _ _ alike)

-- a build, for which the same texts are analysed
pub alike-built : (building : Bool) (one two mid behind : SessionData) (texts others : List GroupTextData) → AlikeButStates one two →
    BuildsIf building one mid texts → BuildsIf building two behind others → AlikeButStates mid behind × (others ≡ texts)
alike-built true one two mid behind texts others alike first second =
    let present : second.present ≡ first.present = HasTexts-unique one.large one.circuit.graph second.present first.present
    (subst (λ (large : ℕ). HasTexts large one.circuit.graph second.present) alike.large
    (subst (λ (c : CircuitData). HasTexts two.large c.graph second.present) alike.circuit second.has)) first.has in (
      alike_as mid behind (with_present one first.present) (with_present two first.present) first.used (second.used ∙ ap (with_present two) present)
          (alike_present one two first.present alike),
      second.news ∙ ap₂ (λ (kept all : List GroupTextData). new_texts kept all) alike.kept present ∙ sym first.news,
    )
alike-built false one two mid behind texts others alike first second =
    (alike_as mid behind one two first.0 second.0 alike, second.1 ∙ sym first.1)

pub builds-alike : (command other : Command) → AreOneLine command other → builds other ≡ builds command
builds-alike command other (plain _ together) = refl
builds-alike command other (sets _ _) = refl
builds-alike command other (charges _ _) = refl
builds-alike command other (expects _ _) = refl

-- the data behind the builds of two commands of one line
pub mids-alike : (command other : Command) → AreOneLine command other → (one two new later : SessionData) (lines more : List Line) (texts others : List GroupTextData) →
    (first : Performs one command new lines texts) → (second : Performs two other later more others) → AlikeButStates one two →
    AlikeButStates first.mid second.mid × (others ≡ texts)
mids-alike command other same one two new later lines more texts others first second alike =
    alike-built (builds command) one two first.mid second.mid texts others alike first.prepares
    (subst (λ (building : Bool). BuildsIf building two second.mid others) (builds-alike command other same) second.prepares)

-- so such commands keep data alike
pub alike-performed : (command other : Command) → AreOneLine command other → (one two new later : SessionData) (lines more : List Line) (texts others : List GroupTextData) →
    Performs one command new lines texts → Performs two other later more others → AlikeButStates one two → AlikeButStates new later × (others ≡ texts)
alike-performed command other same one two new later lines more texts others first second alike =
    let (mids, analysed) = mids-alike command other same one two new later lines more texts others first second alike in
    (alike-effect command other same first.mid second.mid new later lines more first.does.effect second.does.effect mids, analysed)
