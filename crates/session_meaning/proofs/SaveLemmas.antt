-- What is kept under names stays fit for a circuit that grows, what comes back is a state of it, and what was saved comes back.
use Rattle.std.proofs.Common.{◌≡◌, ◌≢◌, ℕ, zero, suc, ◌+◌, ◌<◌, ◌≤◌, Bool, true, false, not, cond, List, [], ◌∷◌, ◌++◌, All, length, get_or, take, drop, nat_lt, Option, Some, None, IfSome, if◌then◌else◌, refl, sym, ap, subst, ◌∙◌, arith, append_assoc, append-nil, length-append, length-drop}
use Rattle.std.specs.Prelude.{find, option_map, position, slice_set, unwrap_or}
use Rattle.std.specs.List.{position_or_len}
use Rattle.std.proofs.lemmas.Bool.Decides.{nat_tests}
use Rattle.std.proofs.Math.Seq.{get_or-append_seam, set-append_seam}
use Rattle.std.proofs.lemmas.List.{drop_all, drop_more, get_or_append_left, get_or_default, length-take-le, take_more}
use Rattle.std.proofs.lemmas.Slice.Eq.{bytes_eq-Decides}
use Rattle.std.proofs.lemmas.List.Elements.{All-nil, All-cons, All-head, All-tail, All-weaker}
use Rattle.ternary.specs.declared.tern.Tern.{Tern}
use Rattle.ternary.specs.declared.tern.Tern.TheVariants.{Zero, One}
use Rattle.switch_paths.specs.Graphs.{nodes}
use Rattle.switch_paths.specs.Rails.{IsSound}
use Rattle.switch_paths.specs.Switching.{state_at}
use Rattle.switch_paths.specs.declared.TheConstants.{GND, VDD, RAILS}
use Rattle.node_words.specs.Vectors.{AreWithin}
use Rattle.session_meaning.specs.declared.TheConstants.{MOST_WATCHED}
use Rattle.session_meaning.specs.Saves.{is_under, kept_under, with_save, back_to, state_back, FitsSave, AreSaves}
use Rattle.session_meaning.specs.Sessions.{SessionData, IsReady, IsSession}

-- what is kept under a name fits
pub kept-fits : (count : ℕ) (saves : List (List ℕ × List Tern)) (name : List ℕ) → AreSaves count saves → IfSome (kept_under saves name) (FitsSave count)
kept-fits count [] name all = tt
kept-fits count (save ∷ saves) name all =
    by (is_under name save) (kept-fits count saves name (All-tail (λ (one : List ℕ × List Tern). FitsSave count one.1) save saves all))
  where
    by : (same : Bool) → IfSome (kept_under saves name) (FitsSave count) →
        IfSome (option_map (λ one. one.1) (cond same (Some save) (find (is_under name) saves))) (FitsSave count)
    by true others = All-head (λ (one : List ℕ × List Tern). FitsSave count one.1) save saves all
    by false others = others

pub found-fits : (session : SessionData) (name : List ℕ) (kept : List Tern) → IsReady session → kept_under session.saves name ≡ Some kept →
    FitsSave (nodes session.circuit.graph) kept
found-fits session name kept ready found =
    subst (λ (one : Option (List Tern)). IfSome one (FitsSave (nodes session.circuit.graph))) found
    (kept-fits (nodes session.circuit.graph) session.saves name ready.saved)

-- so does all with a state more that fits
pub with_save-fits : (count : ℕ) (saves : List (List ℕ × List Tern)) (name : List ℕ) (state : List Tern) → AreSaves count saves → FitsSave count state →
    AreSaves count (with_save saves name state)
with_save-fits count [] name state all fits =
    All-cons (λ (one : List ℕ × List Tern). FitsSave count one.1) (name, state) [] fits (All-nil (λ (one : List ℕ × List Tern). FitsSave count one.1))
with_save-fits count (save ∷ saves) name state all fits =
    let others = All-tail (λ (one : List ℕ × List Tern). FitsSave count one.1) save saves all in
    by (is_under name save) others (with_save-fits count saves name state others fits)
  where
    by : (same : Bool) → AreSaves count saves → AreSaves count (with_save saves name state) →
        AreSaves count (if same then (name, state) ∷ saves else save ∷ with_save saves name state)
    by true others later = All-cons (λ (one : List ℕ × List Tern). FitsSave count one.1) (name, state) saves fits others
    by false others later =
        All-cons (λ (one : List ℕ × List Tern). FitsSave count one.1) save (with_save saves name state)
        (All-head (λ (one : List ℕ × List Tern). FitsSave count one.1) save saves all) later

-- what fits so many nodes fits more
pub saves-grown : (count more : ℕ) (saves : List (List ℕ × List Tern)) → count ≤ more → AreSaves count saves → AreSaves more saves
saves-grown count more saves low all =
    All-weaker (λ (one : List ℕ × List Tern). FitsSave count one.1) (λ (one : List ℕ × List Tern). FitsSave more one.1)
    (λ one fits. let few = fits.few in record { few = omega (arith, few, low); railed = fits.railed; sound = fits.sound }) saves all

-- the present states can be kept
pub fits-present : (session : SessionData) → IsReady session → FitsSave (nodes session.circuit.graph) session.state
fits-present session ready =
    let counted = ready.states in
    let railed = ready.netlist.railed in
    record { few = omega (arith, counted); railed = omega (arith, counted, railed); sound = ready.sound }

-- a session stays one with nodes that are watched, vectors, and kept states, that are fit for its circuit
pub IsSession-setup : (session : SessionData) (watched : List ℕ) (vectors : List (List ℕ × List ℕ)) (saves : List (List ℕ × List Tern)) →
    All (λ node. node < nodes session.circuit.graph) watched → length watched ≤ MOST_WATCHED → AreWithin (nodes session.circuit.graph) vectors →
    AreSaves (nodes session.circuit.graph) saves → IsSession session →
    IsSession (record session { watched = watched; vectors = vectors; saves = saves })
IsSession-setup session watched vectors saves among few within fit is = record {
  ready = record {
    netlist = is.ready.netlist;
    states = is.ready.states;
    sound = is.ready.sound;
    free = is.ready.free;
    saved = fit;
  };
  watched = among;
  few = few;
  clocks = is.clocks;
  places = is.places;
  some = is.some;
  vectors = within;
  low = is.low;
  high = is.high;
}

-- a session stays one where other states are kept that fit
pub IsSession-saves : (session : SessionData) (saves : List (List ℕ × List Tern)) → AreSaves (nodes session.circuit.graph) saves → IsSession session →
    IsSession (record session { saves = saves })
IsSession-saves session saves fit is = IsSession-setup session session.watched session.vectors saves is.watched is.few is.vectors fit is

-- a state comes back with one for each node
pub length-back : (count : ℕ) (found : Option (List Tern)) (state : List Tern) → length state ≡ count → IfSome found (FitsSave count) →
    length (back_to (unwrap_or found []) state) ≡ length state
length-back count None state counted fits = refl
length-back count (Some kept) state counted fits =
    let few = fits.few in omega (arith, length-append kept (drop (length kept) state), length-drop (length kept) state, counted, few)

-- and with the rails at theirs
pub sound-back : (count : ℕ) (found : Option (List Tern)) (state : List Tern) → IsSound state → IfSome found (FitsSave count) →
    IsSound (back_to (unwrap_or found []) state)
sound-back count None state sound fits = sound
sound-back count (Some kept) state sound fits =
    let rest : List Tern = drop (length kept) state in
    let railed = fits.railed in
    record {
      gnd = get_or_append_left kept rest Zero GND (omega (arith, railed)) ∙ fits.sound.gnd;
      vdd = get_or_append_left kept rest Zero VDD (omega (arith, railed)) ∙ fits.sound.vdd;
    }

-- ---- what was saved comes back

-- what is kept under a name is what was saved last
kept-with_save : (saves : List (List ℕ × List Tern)) (name : List ℕ) (state : List Tern) → kept_under (with_save saves name state) name ≡ Some state
kept-with_save [] name state = rw ((bytes_eq-Decides name name).1 refl) refl
kept-with_save (save ∷ saves) name state = by (is_under name save) refl (kept-with_save saves name state)
  where
    by : (same : Bool) → is_under name save ≡ same → kept_under (with_save saves name state) name ≡ Some state →
        kept_under (if same then (name, state) ∷ saves else save ∷ with_save saves name state) name ≡ Some state
    by true is later = rw ((bytes_eq-Decides name name).1 refl) refl
    by false is later = rw is later

-- and where there are as many nodes as then, it is the whole state
pub comes_back : (saves : List (List ℕ × List Tern)) (name : List ℕ) (state later : List Tern) → length later ≡ length state →
    state_back (with_save saves name state) name later ≡ state
comes_back saves name state later count =
    rw (kept-with_save saves name state) (ap (λ (rest : List Tern). state ++ rest) (drop_all (length state) later (omega (arith, count))) ∙ append-nil state)

-- ---- one is put

-- in the place of the first that is kept under its name
pub with_save-at : (saves : List (List ℕ × List Tern)) (name : List ℕ) (state : List Tern) (place : ℕ) (other : List ℕ × List Tern) → place < length saves →
    is_under name (get_or saves place other) ≡ true → ((k : ℕ) → k < place → is_under name (get_or saves k other) ≡ false) →
    with_save saves name state ≡ slice_set saves place (name, state)
with_save-at [] name state place other inside is none = absurd (omega (arith, inside))
with_save-at (save ∷ saves) name state zero other inside is none = rw (let here : is_under name save ≡ true = is in here) refl
with_save-at (save ∷ saves) name state (suc place) other inside is none =
    rw (let here : is_under name save ≡ false = none 0 (omega arith) in here)
    (ap (λ (rest : List (List ℕ × List Tern)). save ∷ rest)
    (with_save-at saves name state place other (omega (arith, inside)) is (λ k low. none (suc k) (omega (arith, low)))))

-- or else behind all
with_save-past : (saves : List (List ℕ × List Tern)) (name : List ℕ) (state : List Tern) → length saves ≤ position_or_len (is_under name) saves →
    with_save saves name state ≡ saves ++ (name, state) ∷ []
with_save-past [] name state past = refl
with_save-past (save ∷ saves) name state past = by (is_under name save) past (with_save-past saves name state)
  where
    by : (same : Bool) → suc (length saves) ≤ cond (not same) (1 + position_or_len (is_under name) saves) 0 →
        (length saves ≤ position_or_len (is_under name) saves → with_save saves name state ≡ saves ++ (name, state) ∷ []) →
        (if same then (name, state) ∷ saves else save ∷ with_save saves name state) ≡ save ∷ (saves ++ (name, state) ∷ [])
    by true past others = absurd (omega (arith, past))
    by false past others = ap (λ (rest : List (List ℕ × List Tern)). save ∷ rest) (others (omega (arith, past)))

pub with_save-behind : (saves : List (List ℕ × List Tern)) (name : List ℕ) (state : List Tern) → position (is_under name) saves ≡ None →
    with_save saves name state ≡ saves ++ (name, state) ∷ []
with_save-behind saves name state none =
    let first : ℕ = position_or_len (is_under name) saves in
    with_save-past saves name state (by (nat_lt first (length saves)) refl none)
  where
    by : (low : Bool) → nat_lt (position_or_len (is_under name) saves) (length saves) ≡ low →
        cond low (Some (position_or_len (is_under name) saves)) None ≡ None → length saves ≤ position_or_len (is_under name) saves
    by true is none = absurd (cc)
    by false is none = grind (arith, nat_tests)

-- ---- given back node by node

-- the rails have what was kept before any node is given back
pub back-start : (kept state : List Tern) → RAILS ≤ length kept → RAILS ≤ length state → IsSound kept → IsSound state →
    state ≡ take RAILS kept ++ drop RAILS state
back-start [] state few some sound is = absurd (omega (arith, few))
back-start (a ∷ []) state few some sound is = absurd (omega (arith, few))
back-start (a ∷ b ∷ kept) [] few some sound is = absurd (omega (arith, some))
back-start (a ∷ b ∷ kept) (c ∷ []) few some sound is = absurd (omega (arith, some))
back-start (a ∷ b ∷ kept) (c ∷ d ∷ state) few some sound is =
    ap (λ (first : Tern). first ∷ d ∷ state) (let gnd : c ≡ Zero = is.gnd in gnd ∙ sym (let old : a ≡ Zero = sound.gnd in old))
    ∙ ap (λ (second : Tern). a ∷ second ∷ state) (let vdd : d ≡ One = is.vdd in vdd ∙ sym (let old : b ≡ One = sound.vdd in old))

module _ (kept state : List Tern) (node : ℕ) (value : Tern) (inside : node < length kept) (few : length kept ≤ length state)
    (is : value ≡ get_or kept node value) where
  -- the nodes before this one have what was kept
  abbrev front : List Tern
  front = take node kept

  front-count : length front ≡ node
  front-count = length-take-le node kept (omega (arith, inside))

  front-then : front ++ drop node state ≡ front ++ get_or state node Zero ∷ drop (node + 1) state
  front-then =
      let read : drop node state ≡ get_or state node Zero ∷ drop (node + 1) state = drop_more state node Zero (omega (arith, inside, few)) in
      ap (λ (rest : List Tern). front ++ rest) read

  -- and now this one has it too
  pub back-next : slice_set (front ++ drop node state) node value ≡ take (node + 1) kept ++ drop (node + 1) state
  back-next =
      let rest : List Tern = drop (node + 1) state in
      let seam : slice_set (front ++ get_or state node Zero ∷ rest) (length front) value ≡ front ++ value ∷ rest =
      set-append_seam front (get_or state node Zero) rest value in
      let more : take (node + 1) kept ≡ front ++ get_or kept node value ∷ [] = take_more kept node value inside in
      ap (λ (all : List Tern). slice_set all node value) front-then
      ∙ ap (λ (n : ℕ). slice_set (front ++ get_or state node Zero ∷ rest) n value) (sym front-count) ∙ seam
      ∙ sym (append_assoc front (value ∷ []) rest) ∙ ap (λ (last : Tern). (front ++ last ∷ []) ++ rest) is
      ∙ ap (λ (done : List Tern). done ++ rest) (sym more)

  -- its state was the one before all
  front-state : state_at (front ++ drop node state) node ≡ state_at state node
  front-state =
      ap (λ (all : List Tern). state_at all node) front-then
      ∙ ap (λ (n : ℕ). state_at (front ++ get_or state node Zero ∷ drop (node + 1) state) n) (sym front-count)
      ∙ get_or-append_seam front (get_or state node Zero) (drop (node + 1) state) Zero

  -- so if it was another than what was kept, the states before and after all differ there
  pub back-differs : value ≢ state_at (front ++ drop node state) node → state_at state node ≢ state_at (back_to kept state) node
  back-differs other same =
      other (is ∙ get_or_default kept node value Zero inside ∙ sym (get_or_append_left kept (drop (length kept) state) Zero node inside) ∙ sym same ∙ sym front-state)
