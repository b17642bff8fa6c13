-- The scope of the calls that are open: that of the outer ones with one more, and the node of a name in it.
use Rattle.std.proofs.Common.{◌≡◌, ℕ, ◌+◌, ◌-◌, ◌≤◌, length, get_or, take, take-append-drop, Result, Ok, Err, IfOk, arith, Bool, true, false, List, [], ◌∷◌, ◌++◌, Option, Some, None, option_map, append_assoc, if◌then◌else◌, refl, sym, ◌∙◌, ap, bytes_eq, eq-eqb, not, ◌==◌, ◌||◌, append-nil, map}
use Rattle.std.specs.List.{list_any, zip}
use Rattle.std.proofs.lemmas.List.{at_drop_more, drop_all}
use Rattle.spice_cards.specs.declared.fault.DeckRefusal.{DeckRefusal}
use Rattle.spice_cards.specs.declared.fault.DeckWhat.{DeckWhat}
use Rattle.spice_cards.specs.declared.fault.DeckWhat.TheVariants.{PortCount, Recursion}
use Rattle.spice_cards.specs.Decks.{DeckCards, PartCard, SubcircuitCards}
use Rattle.spice_cards.specs.Reading.{word_at}
use Rattle.spice_cards.specs.Tables.{named}
use Rattle.spice_read.specs.declared.open_call.OpenCall.{OpenCall}
use Rattle.spice_read.specs.Expansions.{last_named}
use Rattle.spice_read.specs.Frames.{FrameData, inside, inside_call, name_below, scope_from, scope_of}
use Rattle.spice_read.specs.Making.{MadeData, after}
use Rattle.spice_read.specs.Scopes.{Scope, below, called, dot, fixed_node, is_fixed, node_by, node_in, nodes_of, outside, port_nodes, subcircuit_named, with_each}
use Rattle.spice_read.specs.Steps.{entry_by, entry_of, expand}
use Rattle.spice_read.proofs.PortsLemmas.{last_counts}

-- inside one more call
pub scope_from-more : (deck : DeckCards) (calls : List OpenCall) (scope : Scope) (call : OpenCall) →
    scope_from deck scope (calls ++ call ∷ []) ≡ inside_call deck (scope_from deck scope calls) call
scope_from-more deck [] scope call = refl
scope_from-more deck (outer ∷ calls) scope call = scope_from-more deck calls (inside_call deck scope outer) call

-- the scope with one more call, by the words of its card, and by the line and the ports of its subcircuit
pub opened-scope : (deck : DeckCards) (calls next : List OpenCall) (call : OpenCall) (frame : FrameData) (words : List (List ℕ)) (line : ℕ)
    (ports : List (List ℕ)) → record { deck = deck; calls = calls } ≡ frame → next ≡ calls ++ call ∷ [] → call.name.now ≡ word_at words 0 →
    call.line ≡ line → call.ports ≡ record { ports = ports; words = nodes_of words } →
    scope_of (record { deck = deck; calls = next }) ≡ called frame.deck (scope_of frame) words line ports
opened-scope deck calls next call frame words line ports is_frame are has_name has_line has_ports =
    let scope = scope_from deck outside calls in
    let same : inside_call deck scope call ≡ called deck scope words line ports =
    λ j. inside deck scope (has_name j) (has_line j) (has_ports j).ports (has_ports j).words in
    ap (scope_from deck outside) are
    ∙ scope_from-more deck calls outside call
    ∙ same
    ∙ ap (λ (f : FrameData). called f.deck (scope_of f) words line ports) is_frame

-- two frames are the same where their decks and their calls are
same_frame : (one other : FrameData) → one.deck ≡ other.deck → one.calls ≡ other.calls → one ≡ other
same_frame one other decks calls = λ j. record { deck = decks j; calls = calls j }

-- a frame in which a call was opened, and then all calls were closed but those of before
pub closed-frame : (frame opened inner closed : FrameData) (depth : ℕ) → depth ≡ length frame.calls → opened.deck ≡ frame.deck →
    take (length frame.calls) opened.calls ≡ frame.calls → inner ≡ opened → closed ≡ record inner { calls = take depth inner.calls } →
    closed ≡ frame
closed-frame frame opened inner closed depth counted decks outer stays closes =
    closes
    ∙ ap (λ (f : FrameData). record f { calls = take depth f.calls }) stays
    ∙ same_frame (record opened { calls = take depth opened.calls }) frame decks (ap (λ (d : ℕ). take d opened.calls) counted ∙ outer)

-- what is made in one of two frames that are the same
pub same-after : (made : MadeData) (room : ℕ) (one other : FrameData) (parts : List PartCard) (whole : Result MadeData DeckRefusal) → one ≡ other →
    after made (expand room other.deck (scope_of other) parts) ≡ whole → after made (expand room one.deck (scope_of one) parts) ≡ whole
same-after made room one other parts whole same is =
    ap (λ (f : FrameData). after made (expand room f.deck (scope_of f) parts)) same ∙ is

-- ---- nodes

-- a port stands for what the word for it stands for outside the call
of_words : (f : List ℕ → List ℕ) (ports words : List (List ℕ)) (name : List ℕ) (found : Option (List ℕ)) →
    last_named (option_map f found) (zip ports (map f words)) name ≡ option_map f (last_named found (zip ports words) name)
of_words f [] words name found = refl
of_words f (port ∷ ports) [] name found = refl
of_words f (port ∷ ports) (word ∷ words) name found = by (bytes_eq name port) (of_words f ports words name)
  where
    by : (same : Bool) →
        ((found : Option (List ℕ)) → last_named (option_map f found) (zip ports (map f words)) name ≡ option_map f (last_named found (zip ports words) name)) →
        last_named (if same then Some (f word) else option_map f found) (zip ports (map f words)) name
        ≡ option_map f (last_named (if same then Some word else found) (zip ports words) name)
    by true later = later (Some word)
    by false later = later found

named-port : (deck : DeckCards) (scope : Scope) (ports words : List (List ℕ)) (name : List ℕ) →
    named (with_each [] (port_nodes deck scope ports words)) name ≡ option_map (node_in deck scope) (last_named None (zip ports words) name)
named-port deck scope ports words name =
    last_counts (port_nodes deck scope ports words) name ∙ of_words (node_in deck scope) ports words name None

-- the node of a name, by what is found among the ports of the innermost call
node_found : (deck : DeckCards) (outer : List OpenCall) (call : OpenCall) (name : List ℕ) (found : Option (List ℕ)) →
    found ≡ last_named None (zip call.ports.ports call.ports.words) name →
    node_in deck (scope_from deck outside (outer ++ call ∷ [])) name
    ≡ node_by deck (below (scope_from deck outside outer).path call.name.now) name (option_map (node_in deck (scope_from deck outside outer)) found)
node_found deck outer call name found is =
    let scope = scope_from deck outside outer in
    ap (λ (s : Scope). node_in deck s name) (scope_from-more deck outer outside call)
    ∙ ap (node_by deck (below scope.path call.name.now) name) (named-port deck scope call.ports.ports call.ports.words name)
    ∙ sym (ap (λ (f : Option (List ℕ)). node_by deck (below scope.path call.name.now) name (option_map (node_in deck scope) f)) is)

-- the innermost call stands behind the others
innermost : (calls : List OpenCall) (call : OpenCall) → 1 ≤ length calls → call ≡ get_or calls (length calls - 1) call →
    calls ≡ take (length calls - 1) calls ++ call ∷ []
innermost calls call some is =
    let place = length calls - 1 in
    sym (take-append-drop place calls)
    ∙ ap (λ (cs : List OpenCall). take place calls ++ cs)
    (at_drop_more (λ (cs : List OpenCall). cs) calls place call (omega arith)
    ∙ (λ j. sym is j ∷ drop_all (place + 1) calls (omega arith) j))

-- that of a port is the node of the word for it
pub port-node : (deck : DeckCards) (calls : List OpenCall) (call : OpenCall) (name word node : List ℕ) → 1 ≤ length calls →
    call ≡ get_or calls (length calls - 1) call → Some word ≡ last_named None (zip call.ports.ports call.ports.words) name →
    node ≡ node_in deck (scope_from deck outside (take (length calls - 1) calls)) word →
    node ≡ node_in deck (scope_from deck outside calls) name
port-node deck calls call name word node some is looked is_node =
    is_node
    ∙ sym (node_found deck (take (length calls - 1) calls) call name (Some word) looked)
    ∙ sym (ap (λ (cs : List OpenCall). node_in deck (scope_from deck outside cs) name) (innermost calls call some is))

-- what has a name below a path and the names of calls
below-more : (deck : DeckCards) (calls : List OpenCall) (scope : Scope) (name : List ℕ) →
    below (scope_from deck scope calls).path name ≡ below scope.path (name_below calls name)
below-more deck [] scope name = refl
below-more deck (call ∷ calls) scope name =
    below-more deck calls (inside_call deck scope call) name ∙ by scope.path
  where
    by : (path : Option (List ℕ)) →
        below (Some (below path call.name.now)) (name_below calls name) ≡ below path (call.name.now ++ dot ∷ name_below calls name)
    by None = refl
    by (Some path) = append_assoc path (dot ∷ call.name.now) (dot ∷ name_below calls name)

-- the node of a name that is no port
pub own-node : (deck : DeckCards) (calls : List OpenCall) (call : OpenCall) (name node : List ℕ) (fixed : Bool) → 1 ≤ length calls →
    call ≡ get_or calls (length calls - 1) call → None ≡ last_named None (zip call.ports.ports call.ports.words) name →
    fixed ≡ is_fixed deck name → node ≡ (if fixed then fixed_node name else name_below calls name) →
    node ≡ node_in deck (scope_from deck outside calls) name
own-node deck calls call name node fixed some is looked stays is_node =
    let outer = take (length calls - 1) calls in
    let are = innermost calls call some is in
    is_node
    ∙ ap (λ (same : Bool). if same then fixed_node name else name_below calls name) stays
    ∙ sym (ap (λ (own : List ℕ). if is_fixed deck name then fixed_node name else own) (below-more deck calls outside name))
    ∙ ap (λ (cs : List OpenCall). if is_fixed deck name then fixed_node name else below (scope_from deck outside cs).path name) are
    ∙ ap (λ (s : Scope). if is_fixed deck name then fixed_node name else below s.path name) (scope_from-more deck outer outside call)
    ∙ sym (node_found deck outer call name None looked)
    ∙ sym (ap (λ (cs : List OpenCall). node_in deck (scope_from deck outside cs) name) are)

-- what holds of each value that a fact holds of
pub ok-mapped : {T E : Type 0} {P Q : T → Type 0} (given : Result T E) → ((value : T) → P value → Q value) → IfOk given P → IfOk given Q
ok-mapped (Ok value) each holds = each value holds
ok-mapped (Err told) each holds = tt

-- ---- the lines of the subcircuits

expanding-from : (deck : DeckCards) (calls : List OpenCall) (scope : Scope) →
    (scope_from deck scope calls).expanding ≡ scope.expanding ++ map (λ (call : OpenCall). call.line) calls
expanding-from deck [] scope = sym (append-nil scope.expanding)
expanding-from deck (call ∷ calls) scope =
    expanding-from deck calls (inside_call deck scope call) ∙ append_assoc scope.expanding (call.line ∷ []) (map (λ (call : OpenCall). call.line) calls)

any-map : (line : ℕ) (calls : List OpenCall) →
    list_any (λ one. one == line) (map (λ (call : OpenCall). call.line) calls) ≡ list_any (λ (call : OpenCall). call.line == line) calls
any-map line [] = refl
any-map line (call ∷ calls) = ap (λ (later : Bool). (call.line == line) || later) (any-map line calls)

-- a subcircuit is being expanded, if one of the calls is of it
pub any-expanding : (deck : DeckCards) (calls : List OpenCall) (line : ℕ) →
    list_any (λ one. one == line) (scope_from deck outside calls).expanding ≡ list_any (λ (call : OpenCall). call.line == line) calls
any-expanding deck calls line = ap (list_any (λ one. one == line)) (expanding-from deck calls outside) ∙ any-map line calls

-- ---- the subcircuit of a call

-- the subcircuit, unless it is being expanded
abbrev pub entry_or : Bool → SubcircuitCards → Result SubcircuitCards DeckWhat
entry_or again s = if again then Err Recursion else Ok s

-- a call of as many nodes opens the subcircuit that was found, unless it is being expanded
pub entry-found : (frame after : FrameData) (words : List (List ℕ)) (name : List ℕ) (s : SubcircuitCards) (again : Bool) →
    length (nodes_of words) ≡ length s.ports → after ≡ frame → name ≡ subcircuit_named words → named frame.deck.subcircuits name ≡ Some s →
    again ≡ list_any (λ one. one == s.line) (scope_of after).expanding →
    entry_of frame.deck (scope_of frame) words ≡ entry_or again s
entry-found frame after words name s again counted stays is_name found is =
    let scope = scope_of frame in
    let nodes = nodes_of words in
    ap (λ (n : List ℕ). entry_by scope nodes (named frame.deck.subcircuits n)) (sym is_name)
    ∙ ap (entry_by scope nodes) found
    ∙ ap (λ (same : Bool). if not same then Err PortCount else entry_or (list_any (λ one. one == s.line) scope.expanding) s)
    (eq-eqb (length nodes) (length s.ports) counted)
    ∙ ap (λ (b : Bool). entry_or b s) (sym (is ∙ ap (λ (f : FrameData). list_any (λ one. one == s.line) (scope_of f).expanding) stays))

-- ---- the bytes of names

-- the name with what stands before it, where one more of the calls is written
pub name-more : (calls left : List OpenCall) (call : OpenCall) (name whole written more : List ℕ) → left ≡ call ∷ calls →
    more ≡ (written ++ call.name.now) ++ dot ∷ [] → written ++ name_below left name ≡ whole → more ++ name_below calls name ≡ whole
name-more calls left call name whole written more are is seen =
    ap (λ (bytes : List ℕ). bytes ++ name_below calls name) is
    ∙ append_assoc (written ++ call.name.now) (dot ∷ []) (name_below calls name)
    ∙ append_assoc written call.name.now (dot ∷ name_below calls name)
    ∙ sym (ap (λ (cs : List OpenCall). written ++ name_below cs name) are)
    ∙ seen
