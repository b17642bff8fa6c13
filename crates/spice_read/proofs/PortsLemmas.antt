-- Tables of the words for ports: what is put, and what the last one of a name leaves.
use Rattle.std.proofs.Common.{◌≡◌, ℕ, ◌+◌, ◌<◌, ◌≤◌, Bool, true, false, List, [], ◌∷◌, length, drop, bytes_eq, Option, Some, None, option_map, if◌then◌else◌, refl, sym, ◌∙◌, ap, arith}
use Rattle.std.specs.Borrow.{Bor}
use Rattle.std.specs.List.{zip}
use Rattle.std.specs.Map.{lookup}
use Rattle.std.proofs.lemmas.List.{drop_all}
use Rattle.std.proofs.lemmas.Slice.Eq.{bytes_eq-Decides}
use Rattle.indexmap.specs.IndexMap.{insert_entry}
use Rattle.spice_cards.specs.Reading.{word_at}
use Rattle.spice_cards.specs.Tables.{named}
use Rattle.spice_cards.proofs.PlaceLemmas.{left-first}
use Rattle.spice_read.specs.Expansions.{last_named}
use Rattle.spice_read.specs.Ports.{entries_of}
use Rattle.spice_read.specs.Scopes.{with_each, with_last}

-- ---- tables as they are kept

-- what is put into a table of names
pub entries_of-insert : (table : List (Bor (List ℕ) × Bor (List ℕ))) (name word : Bor (List ℕ)) →
    entries_of (insert_entry (λ one two. bytes_eq one.now two.now) table name word) ≡ with_last (entries_of table) name.now word.now
entries_of-insert [] name word = refl
entries_of-insert (entry ∷ table) name word = by (bytes_eq name.now entry.0.now) (entries_of-insert table name word)
  where
    by : (same : Bool) →
        entries_of (insert_entry (λ one two. bytes_eq one.now two.now) table name word) ≡ with_last (entries_of table) name.now word.now →
        entries_of (if same then (entry.0, word) ∷ table else entry ∷ insert_entry (λ one two. bytes_eq one.now two.now) table name word)
        ≡ (if same then (entry.0.now, word.now) ∷ entries_of table
        else (entry.0.now, entry.1.now) ∷ with_last (entries_of table) name.now word.now)
    by true later = refl
    by false later = ap (λ (rest : List (List ℕ × List ℕ)). (entry.0.now, entry.1.now) ∷ rest) later

-- a look-up in it
pub lookup-entries_of : (table : List (Bor (List ℕ) × Bor (List ℕ))) (name : List ℕ) →
    option_map (λ (word : Bor (List ℕ)). word.now) (lookup (λ key. bytes_eq name key.now) table) ≡ named (entries_of table) name
lookup-entries_of [] name = refl
lookup-entries_of (entry ∷ table) name = by (bytes_eq name entry.0.now) (lookup-entries_of table name)
  where
    by : (same : Bool) → option_map (λ (word : Bor (List ℕ)). word.now) (lookup (λ key. bytes_eq name key.now) table) ≡ named (entries_of table) name →
        option_map (λ (word : Bor (List ℕ)). word.now) (if same then Some entry.1 else lookup (λ key. bytes_eq name key.now) table)
        ≡ (if same then Some entry.1.now else named (entries_of table) name)
    by true later = refl
    by false later = later

-- ---- the last one of a name

-- a name stands for what was put last
named-with_last : (entries : List (List ℕ × List ℕ)) (port node name : List ℕ) →
    named (with_last entries port node) name ≡ (if bytes_eq name port then Some node else named entries name)
named-with_last [] port node name = refl
named-with_last (entry ∷ entries) port node name =
    by (bytes_eq port entry.0) refl (bytes_eq name entry.0) refl (bytes_eq name port) refl (named-with_last entries port node name)
  where
    same : (one two three : List ℕ) → bytes_eq one two ≡ true → bytes_eq three one ≡ bytes_eq three two
    same one two three is = ap (bytes_eq three) ((bytes_eq-Decides one two).0 is)

    by : (put : Bool) → bytes_eq port entry.0 ≡ put → (here : Bool) → bytes_eq name entry.0 ≡ here → (asked : Bool) → bytes_eq name port ≡ asked →
        named (with_last entries port node) name ≡ (if asked then Some node else named entries name) →
        named (if put then (entry.0, node) ∷ entries else entry ∷ with_last entries port node) name
        ≡ (if asked then Some node else (if here then Some entry.1 else named entries name))
    by true is_put here is_here asked is_asked later =
        ap (λ (h : Bool). if h then Some node else named entries name) (sym (same port entry.0 name is_put) ∙ is_asked)
        ∙ others asked here (sym is_asked ∙ same port entry.0 name is_put ∙ is_here)
      where
        others : (asked here : Bool) → asked ≡ here →
            (if asked then Some node else named entries name) ≡ (if asked then Some node else (if here then Some entry.1 else named entries name))
        others true here same = refl
        others false false same = refl
        others false true same = absurd (cc)
    by false is_put true is_here true is_asked later =
        absurd (clash (sym is_put ∙ (ap (λ (n : List ℕ). bytes_eq n entry.0) (sym ((bytes_eq-Decides name port).0 is_asked)) ∙ is_here)))
      where
        clash : false ≡ true → ⊥
        clash e = absurd (cc)
    by false is_put true is_here false is_asked later = ap (λ (h : Bool). if h then Some entry.1 else named (with_last entries port node) name) is_here
    by false is_put false is_here asked is_asked later =
        ap (λ (h : Bool). if h then Some entry.1 else named (with_last entries port node) name) is_here ∙ later

-- of each name the last one counts
after_each : (ports entries : List (List ℕ × List ℕ)) (name : List ℕ) → named (with_each entries ports) name ≡ last_named (named entries name) ports name
after_each [] entries name = refl
after_each (port ∷ ports) entries name =
    after_each ports (with_last entries port.0 port.1) name
    ∙ ap (λ (found : Option (List ℕ)). last_named found ports name) (named-with_last entries port.0 port.1 name)

pub last_counts : (ports : List (List ℕ × List ℕ)) (name : List ℕ) → named (with_each [] ports) name ≡ last_named None ports name
last_counts ports name = after_each ports [] name

-- ---- loops over the ports

-- the ports that are left, with the words for them
pairs-first : (ports words : List (List ℕ)) (place : ℕ) (port word : List ℕ) → length ports ≡ length words → place < length ports →
    port ≡ word_at ports place → word ≡ word_at words place →
    zip (drop place ports) (drop place words) ≡ (port, word) ∷ zip (drop (place + 1) ports) (drop (place + 1) words)
pairs-first ports words place port word counted low is_port is_word =
    let next_port : drop place ports ≡ port ∷ drop (place + 1) ports =
    left-first ports place low ∙ ap (λ (p : List ℕ). p ∷ drop (place + 1) ports) (sym is_port) in
    let next_word : drop place words ≡ word ∷ drop (place + 1) words =
    left-first words place (omega arith) ∙ ap (λ (w : List ℕ). w ∷ drop (place + 1) words) (sym is_word) in
    ap (λ (ps : List (List ℕ)). zip ps (drop place words)) next_port
    ∙ ap (λ (ws : List (List ℕ)). zip (port ∷ drop (place + 1) ports) ws) next_word

left-none : (ports words : List (List ℕ)) (place : ℕ) → length ports ≤ place → zip (drop place ports) (drop place words) ≡ []
left-none ports words place past = ap (λ (ps : List (List ℕ)). zip ps (drop place words)) (drop_all place ports past)

-- the table with one more port, where those that are left are put
pub one_more : (ports words : List (List ℕ)) (place : ℕ) (port word : List ℕ) (old new whole : List (List ℕ × List ℕ)) →
    length ports ≡ length words → place < length ports → port ≡ word_at ports place → word ≡ word_at words place →
    new ≡ with_last old port word →
    with_each old (zip (drop place ports) (drop place words)) ≡ whole →
    with_each new (zip (drop (place + 1) ports) (drop (place + 1) words)) ≡ whole
one_more ports words place port word old new whole counted low is_port is_word put seen =
    ap (λ (table : List (List ℕ × List ℕ)). with_each table (zip (drop (place + 1) ports) (drop (place + 1) words))) put
    ∙ sym (ap (with_each old) (pairs-first ports words place port word counted low is_port is_word))
    ∙ seen

-- no port is left
pub none_left : (ports words : List (List ℕ)) (place : ℕ) (table whole : List (List ℕ × List ℕ)) → length ports ≤ place →
    with_each table (zip (drop place ports) (drop place words)) ≡ whole → table ≡ whole
none_left ports words place table whole past seen = sym (ap (with_each table) (left-none ports words place past)) ∙ seen

-- what was found of a name, where the next port has it
pub here : (ports words : List (List ℕ)) (place : ℕ) (port word name : List ℕ) (found whole : Option (List ℕ)) →
    length ports ≡ length words → place < length ports → port ≡ word_at ports place → word ≡ word_at words place →
    bytes_eq name port ≡ true →
    last_named found (zip (drop place ports) (drop place words)) name ≡ whole →
    last_named (Some word) (zip (drop (place + 1) ports) (drop (place + 1) words)) name ≡ whole
here ports words place port word name found whole counted low is_port is_word same seen =
    ap (λ (is : Bool). last_named (if is then Some word else found) (zip (drop (place + 1) ports) (drop (place + 1) words)) name) (sym same)
    ∙ sym (ap (λ (left : List (List ℕ × List ℕ)). last_named found left name) (pairs-first ports words place port word counted low is_port is_word))
    ∙ seen

-- and where it has another
pub elsewhere : (ports words : List (List ℕ)) (place : ℕ) (port name : List ℕ) (found whole : Option (List ℕ)) →
    length ports ≡ length words → place < length ports → port ≡ word_at ports place → bytes_eq name port ≡ false →
    last_named found (zip (drop place ports) (drop place words)) name ≡ whole →
    last_named found (zip (drop (place + 1) ports) (drop (place + 1) words)) name ≡ whole
elsewhere ports words place port name found whole counted low is_port same seen =
    let word = word_at words place in
    ap (λ (is : Bool). last_named (if is then Some word else found) (zip (drop (place + 1) ports) (drop (place + 1) words)) name) (sym same)
    ∙ sym (ap (λ (left : List (List ℕ × List ℕ)). last_named found left name) (pairs-first ports words place port word counted low is_port refl))
    ∙ seen

-- after all ports
pub found_last : (ports words : List (List ℕ)) (place : ℕ) (name : List ℕ) (found whole : Option (List ℕ)) → length ports ≤ place →
    last_named found (zip (drop place ports) (drop place words)) name ≡ whole → found ≡ whole
found_last ports words place name found whole past seen =
    sym (ap (λ (left : List (List ℕ × List ℕ)). last_named found left name) (left-none ports words place past)) ∙ seen
