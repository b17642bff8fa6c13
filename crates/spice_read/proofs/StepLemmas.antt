-- What is made of an expansion, part by part: what the first part comes to, and then what the others do.
use Rattle.std.proofs.Common.{◌≡◌, ℕ, zero, suc, ◌-◌, List, [], ◌∷◌, ◌++◌, Some, Result, Ok, Err, refl, sym, ◌∙◌, ap, arith}
use Rattle.std.specs.List.{flat_map}
use Rattle.switch_paths.specs.declared.switching.SwitchKind.{SwitchKind}
use Rattle.ternary.specs.declared.unmade.Unmade.{Unmade}
use Rattle.ternary.specs.declared.unmade.Unmade.TheVariants.{Refused, NoMemory}
use Rattle.ternary.specs.Unmade.{IsFault}
use Rattle.spice_cards.specs.declared.fault.DeckRefusal.{DeckRefusal}
use Rattle.spice_cards.specs.declared.fault.DeckWhat.{DeckWhat}
use Rattle.spice_cards.specs.declared.fault.DeckWhat.TheVariants.{TooDeep}
use Rattle.spice_cards.specs.declared.sorts.PartSort.{PartSort}
use Rattle.spice_cards.specs.declared.sorts.PartSort.TheVariants.{Transistor, Call, Opening}
use Rattle.spice_cards.specs.declared.sorts.Strength.{Strength}
use Rattle.spice_cards.specs.Decks.{DeckCards, PartCard, SubcircuitCards}
use Rattle.spice_cards.specs.Reading.{word_at}
use Rattle.spice_read.specs.Frames.{FrameData, scope_of}
use Rattle.spice_read.specs.Making.{MadeData, after, onward, step_meaning}
use Rattle.spice_read.specs.Scopes.{Scope, called, node_in}
use Rattle.spice_read.specs.Steps.{Step, call_steps, entry_of, expand, kind_of, part_by, part_steps, strength_number, transistor_by, transistor_step}
use Rattle.spice_read.specs.Steps.Step.{opened, placed, refused}

-- ---- what is made

-- of steps and of more behind them
pub after-append : (steps more : List Step) (made : MadeData) → after made (steps ++ more) ≡ onward (after made steps) (λ next. after next more)
after-append [] more made = refl
after-append (step ∷ steps) more made = by (step_meaning made step) (λ next. after-append steps more next)
  where
    by : (given : Result MadeData DeckRefusal) →
        ((next : MadeData) → after next (steps ++ more) ≡ onward (after next steps) (λ last. after last more)) →
        onward given (λ next. after next (steps ++ more)) ≡ onward (onward given (λ next. after next steps)) (λ last. after last more)
    by (Err fault) each = refl
    by (Ok next) each = each next

-- of a step that is refused, and of whatever comes behind it
pub onward-fault : {T : Type 0} (given : Result MadeData DeckRefusal) (more : MadeData → Result T DeckRefusal) (told : Unmade DeckRefusal) →
    IsFault given told → IsFault (onward given more) told
onward-fault given more (Refused refusal) tells = ap (λ (m : Result MadeData DeckRefusal). onward m more) tells
onward-fault given more NoMemory tells = tt

-- the fault of one meaning is that of another that is the same
pub same-fault : {T : Type 0} {one other : Result T DeckRefusal} → one ≡ other → (told : Unmade DeckRefusal) → IsFault one told → IsFault other told
same-fault same (Refused refusal) tells = sym same ∙ tells
same-fault same NoMemory tells = tt

-- of one step
pub after-one : (made next : MadeData) (step : Step) → step_meaning made step ≡ Ok next → after made (step ∷ []) ≡ Ok next
after-one made next step makes = ap (λ (m : Result MadeData DeckRefusal). onward m (λ last. Ok last)) makes

pub after-one_fault : (made : MadeData) (step : Step) (told : Unmade DeckRefusal) → IsFault (step_meaning made step) told → IsFault (after made (step ∷ [])) told
after-one_fault made step told tells = onward-fault (step_meaning made step) (λ last. Ok last) told tells

-- of a call that opens, and of what stands inside
pub after-opened : (made mid : MadeData) (line : ℕ) (steps : List Step) → step_meaning made (opened line) ≡ Ok mid →
    after made (opened line ∷ steps) ≡ after mid steps
after-opened made mid line steps opens = ap (λ (m : Result MadeData DeckRefusal). onward m (λ next. after next steps)) opens

-- ---- what a part comes to

-- inside a call, with room for so many calls
pub inside : ℕ → DeckCards → ℕ → Scope → List PartCard → List Step
inside zero deck line inner cards = refused line TooDeep ∷ []
inside (suc room) deck line inner cards = opened line ∷ expand room deck inner cards

-- the steps of a part
abbrev pub part_at : ℕ → DeckCards → Scope → PartCard → List Step
part_at room deck scope part = part_steps deck scope (inside room deck) part

-- an expansion is that of its parts, one after the other
expand-is : (room : ℕ) (deck : DeckCards) (scope : Scope) (parts : List PartCard) →
    expand room deck scope parts ≡ flat_map (part_at room deck scope) parts
unfolding expand inside
expand-is zero deck scope parts = refl
expand-is (suc room) deck scope parts = refl

pub expand-none : (room : ℕ) (deck : DeckCards) (scope : Scope) → expand room deck scope [] ≡ []
expand-none room deck scope = expand-is room deck scope []

pub expand-first : (room : ℕ) (deck : DeckCards) (scope : Scope) (part : PartCard) (later : List PartCard) →
    expand room deck scope (part ∷ later) ≡ part_at room deck scope part ++ expand room deck scope later
expand-first room deck scope part later =
    expand-is room deck scope (part ∷ later) ∙ ap (λ rest. part_at room deck scope part ++ rest) (sym (expand-is room deck scope later))

-- a transistor comes to one step
pub transistor-steps : (room : ℕ) (deck : DeckCards) (scope : Scope) (line : ℕ) (sort : PartSort) (words : List (List ℕ)) (set : Strength) →
    sort ≡ Transistor set →
    part_at room deck scope (record { line = line; sort = sort; words = words }) ≡ transistor_step deck scope line set words ∷ []
transistor-steps room deck scope line sort words set is = ap (part_by deck scope (inside room deck) line words) is

-- the transistor that is placed, by its terminals
pub placed-step : (deck : DeckCards) (scope : Scope) (line : ℕ) (set : Strength) (words : List (List ℕ)) (kind : SwitchKind) (strength : ℕ)
    (gate source drain : List ℕ) → kind_of deck (word_at words 5) ≡ Some kind → strength ≡ strength_number kind set →
    gate ≡ node_in deck scope (word_at words 2) → source ≡ node_in deck scope (word_at words 3) → drain ≡ node_in deck scope (word_at words 1) →
    placed line kind strength gate source drain ≡ transistor_step deck scope line set words
placed-step deck scope line set words kind strength gate source drain has_kind has_strength has_gate has_source has_drain =
    let terminals : placed line kind strength gate source drain
    ≡ placed line kind (strength_number kind set) (node_in deck scope (word_at words 2)) (node_in deck scope (word_at words 3)) (node_in deck scope (word_at words 1)) =
    λ j. placed line kind (has_strength j) (has_gate j) (has_source j) (has_drain j) in
    terminals ∙ sym (ap (transistor_by deck scope line set words) has_kind)

-- that a subcircuit begins comes to none
pub opening-steps : (room : ℕ) (deck : DeckCards) (scope : Scope) (line : ℕ) (sort : PartSort) (words : List (List ℕ)) → sort ≡ Opening →
    part_at room deck scope (record { line = line; sort = sort; words = words }) ≡ []
opening-steps room deck scope line sort words is = ap (part_by deck scope (inside room deck) line words) is

-- a call, by the subcircuit that it opens
entry-steps : (room : ℕ) (deck : DeckCards) (scope : Scope) (line : ℕ) (sort : PartSort) (words : List (List ℕ)) (given : Result SubcircuitCards DeckWhat) →
    sort ≡ Call → entry_of deck scope words ≡ given →
    part_at room deck scope (record { line = line; sort = sort; words = words }) ≡ call_steps deck scope (inside room deck) line words given
entry-steps room deck scope line sort words given is enters =
    ap (part_by deck scope (inside room deck) line words) is ∙ ap (call_steps deck scope (inside room deck) line words) enters

-- one that opens none
pub refused-steps : (room : ℕ) (deck : DeckCards) (scope : Scope) (line : ℕ) (sort : PartSort) (words : List (List ℕ)) (what : DeckWhat) →
    sort ≡ Call → entry_of deck scope words ≡ Err what →
    part_at room deck scope (record { line = line; sort = sort; words = words }) ≡ refused line what ∷ []
refused-steps room deck scope line sort words what is enters = entry-steps room deck scope line sort words (Err what) is enters

-- one for which there is no room
pub deep-steps : (room : ℕ) (deck : DeckCards) (scope : Scope) (line : ℕ) (sort : PartSort) (words : List (List ℕ)) (s : SubcircuitCards) →
    sort ≡ Call → entry_of deck scope words ≡ Ok s → room ≡ 0 →
    part_at room deck scope (record { line = line; sort = sort; words = words }) ≡ refused line TooDeep ∷ []
unfolding inside
deep-steps room deck scope line sort words s is enters none =
    entry-steps room deck scope line sort words (Ok s) is enters
    ∙ ap (λ (r : ℕ). inside r deck line (called deck scope words s.line s.ports) s.parts) none

-- one that is opened
pub opened-steps : (room : ℕ) (deck : DeckCards) (scope inner : Scope) (line : ℕ) (sort : PartSort) (words : List (List ℕ)) (s : SubcircuitCards) →
    sort ≡ Call → entry_of deck scope words ≡ Ok s → (room ≡ 0 → ⊥) → inner ≡ called deck scope words s.line s.ports →
    part_at room deck scope (record { line = line; sort = sort; words = words }) ≡ opened line ∷ expand (room - 1) deck inner s.parts
unfolding inside
opened-steps room deck scope inner line sort words s is enters some enclosed =
    let below : room ≡ suc (room - 1) = omega arith in
    entry-steps room deck scope line sort words (Ok s) is enters
    ∙ ap (λ (r : ℕ). inside r deck line (called deck scope words s.line s.ports) s.parts) below
    ∙ ap (λ (scope : Scope). opened line ∷ expand (room - 1) deck scope s.parts) (sym enclosed)

-- the same, by the frame in which the call is and the scope inside it
pub call-steps : (room : ℕ) (frame entered : FrameData) (line : ℕ) (sort : PartSort) (words : List (List ℕ)) (s : SubcircuitCards) (inner : Scope) →
    sort ≡ Call → entry_of frame.deck (scope_of frame) words ≡ Ok s → (room ≡ 0 → ⊥) →
    inner ≡ called entered.deck (scope_of entered) words s.line s.ports → entered ≡ frame →
    part_at room frame.deck (scope_of frame) (record { line = line; sort = sort; words = words })
    ≡ opened line ∷ expand (room - 1) frame.deck inner s.parts
call-steps room frame entered line sort words s inner is enters some opens stays =
    opened-steps room frame.deck (scope_of frame) inner line sort words s is enters some
    (opens ∙ ap (λ (f : FrameData). called f.deck (scope_of f) words s.line s.ports) stays)

-- ---- what is made of parts, by the first

-- what the first part gives, and the others then
by_first : (made : MadeData) (room : ℕ) (deck : DeckCards) (scope : Scope) (all : List PartCard) (part : PartCard) (later : List PartCard)
    (steps : List Step) (whole : Result MadeData DeckRefusal) →
    all ≡ part ∷ later → part_at room deck scope part ≡ steps → after made (expand room deck scope all) ≡ whole →
    onward (after made steps) (λ next. after next (expand room deck scope later)) ≡ whole
by_first made room deck scope all part later steps whole first comes_to seen =
    sym (after-append steps (expand room deck scope later) made)
    ∙ ap (λ (begin : List Step). after made (begin ++ expand room deck scope later)) (sym comes_to)
    ∙ ap (after made) (sym (expand-first room deck scope part later))
    ∙ ap (λ (parts : List PartCard). after made (expand room deck scope parts)) (sym first)
    ∙ seen

-- a part that is refused
pub part-refused : (made : MadeData) (room : ℕ) (deck : DeckCards) (scope : Scope) (all : List PartCard) (part : PartCard) (later : List PartCard)
    (steps : List Step) (whole : Result MadeData DeckRefusal) (told : Unmade DeckRefusal) →
    all ≡ part ∷ later → part_at room deck scope part ≡ steps → after made (expand room deck scope all) ≡ whole →
    IsFault (after made steps) told → IsFault whole told
part-refused made room deck scope all part later steps whole told first comes_to seen tells =
    same-fault (by_first made room deck scope all part later steps whole first comes_to seen) told
    (onward-fault (after made steps) (λ next. after next (expand room deck scope later)) told tells)

-- a part with others behind it
pub part-made : (made next : MadeData) (room : ℕ) (deck : DeckCards) (scope : Scope) (all : List PartCard) (part : PartCard) (later : List PartCard)
    (steps : List Step) (whole : Result MadeData DeckRefusal) →
    all ≡ part ∷ later → part_at room deck scope part ≡ steps → after made (expand room deck scope all) ≡ whole → after made steps ≡ Ok next →
    after next (expand room deck scope later) ≡ whole
part-made made next room deck scope all part later steps whole first comes_to seen makes =
    sym (ap (λ (m : Result MadeData DeckRefusal). onward m (λ last. after last (expand room deck scope later))) makes)
    ∙ by_first made room deck scope all part later steps whole first comes_to seen

-- no part is left
pub parts-none : (made : MadeData) (room : ℕ) (deck : DeckCards) (scope : Scope) (all : List PartCard) (whole : Result MadeData DeckRefusal) →
    all ≡ [] → after made (expand room deck scope all) ≡ whole → whole ≡ Ok made
parts-none made room deck scope all whole none seen =
    sym seen ∙ ap (λ (parts : List PartCard). after made (expand room deck scope parts)) none ∙ ap (after made) (expand-none room deck scope)
