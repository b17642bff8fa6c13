-- A partial listing with one line more: its text, its number of lines, and that each partial listing is made so, in one way.
use Rattle.std.proofs.Common.{◌≡◌, ℕ, suc, ◌+◌, ◌<◌, ◌≤◌, ◌^◌, ◌⊎◌, Bool, true, false, List, [], ◌∷◌, ◌++◌, length, take, get_or, All, Some, slice_get, codes, decimal, inl, inr, refl, sym, ap, ◌∙◌, arith, rules, append_assoc}
use Rattle.std.specs.List.{flat_map}
use Rattle.std.proofs.lemmas.Bool.{cases_lt}
use Rattle.std.proofs.lemmas.List.{append-nil, append_cancel_left, length_push, get_or_push, get_or_append_left, take_more, get_or-take, length-take}
use Rattle.std.proofs.lemmas.List.Concat.{flat_map-append}
use Rattle.std.proofs.lemmas.List.Elements.{All-nil, All-cons, All-append, All-push, All-weaker, All-head, All-tail}
use Rattle.std.proofs.lemmas.Option.{slice_get-get_or, get_or_from_slice_get, slice_get_within}
use Rattle.straight_code.specs.declared.code.Operand.TheVariants.{Constant}
use Rattle.straight_code.specs.declared.code.Instruction.{Instruction}
use Rattle.straight_code.specs.declared.code.Output.{Output}
use Rattle.straight_code.specs.Code.{AreAllowed, IsOutput}
use Rattle.linear_code.specs.Listing.{Entry, ListingData, storage_before}
use Rattle.line_words.specs.Visible.{IsVisibleName}
use Rattle.linear_code.specs.ListingText.{node_line, node_lines, lines_from, instruction_line, instruction_lines, instruction_text, next_line, storage_nodes, kind_letter}
use Rattle.linear_code.specs.Reading.{IsPartial, partial_text, line_count}
use Rattle.linear_code.specs.Adding.{Added, with_added, output_text, bare_line, Fits}
use Rattle.linear_code.specs.Adding.Added.{entry, instruction, next}
use Rattle.linear_code.proofs.TextLemmas.{Lacks, IsFrom, Lacks-from, IsFrom-decimal}
use Rattle.linear_code.proofs.OperandLemmas.{IsSmall, instruction_text-same, IsFrom-instruction, output_text-same, IsFrom-output}
use Rattle.linear_code.proofs.StorageLemmas.{length-storage_nodes, storage_nodes-at}

-- the line that adds it, with its LF
abbrev pub whole_line : ListingData → Added → List ℕ
whole_line listing added = bare_line listing added ++ 10 ∷ []

-- the line of a node
node_line-bare : (k : ℕ) (added : Entry)
    → node_line k added ≡ (codes "node " ++ (decimal k ++ (codes " " ++ (kind_letter added.is_storage ++ (codes " " ++ added.name))))) ++ 10 ∷ []
node_line-bare k added = simp append_assoc

-- the line of an instruction
instruction_line-bare : (k : ℕ) (added : Instruction)
    → instruction_line k added ≡ (codes "t" ++ (decimal k ++ (codes " = " ++ instruction_text added))) ++ 10 ∷ []
instruction_line-bare k added = simp append_assoc

-- the line of a next state
next_line-bare : (node : ℕ) (added : Output)
    → next_line node added ≡ (codes "next " ++ (decimal node ++ (codes " " ++ output_text added))) ++ 10 ∷ []
next_line-bare node added = simp append_assoc

-- numbered lines and one more
lines_from-push : {X : Type 0} (line : ℕ → X → List ℕ) (k : ℕ) (xs : List X) (added : X)
    → lines_from line k (xs ++ added ∷ []) ≡ lines_from line k xs ++ line (k + length xs) added
lines_from-push line k [] added = append-nil (line k added) ∙ ap (λ n. line n added) (omega arith)
lines_from-push line k (first ∷ xs) added =
    let more = lines_from-push line (k + 1) xs added in
    let place : k + 1 + length xs ≡ k + length (first ∷ xs) = omega arith in
    rw (more, place) (sym (append_assoc (line k first) (lines_from line (k + 1) xs) (line (k + length (first ∷ xs)) added)))

-- neither rail is ever set
abbrev no_rails : Output
no_rails = record { hi = Constant false; lo = Constant false }

-- the line of a node's next state
abbrev line_at : List Entry → List Output → ℕ → List ℕ
line_at entries nexts node = next_line node (get_or nexts (storage_before entries node) no_rails)

-- the next states of a listing so far
abbrev next_part : List Entry → List Output → List ℕ
next_part entries nexts = flat_map (line_at entries nexts) (take (length nexts) (storage_nodes entries))

-- lines that agree at each place are the same
flat_map-same : (f g : ℕ → List ℕ) (nodes : List ℕ) → ((k : ℕ) → k < length nodes → f (get_or nodes k 0) ≡ g (get_or nodes k 0))
    → flat_map f nodes ≡ flat_map g nodes
flat_map-same f g [] same = refl
flat_map-same f g (node ∷ nodes) same =
    let here : f node ≡ g node = same 0 (omega arith) in
    let others = flat_map-same f g nodes (λ k inside. same (suc k) (omega arith)) in
    cc

-- one next state more leaves the earlier lines
line_at-earlier : (entries : List Entry) (nexts : List Output) (added : Output) (k : ℕ) → k < length (take (length nexts) (storage_nodes entries))
    → line_at entries (nexts ++ added ∷ []) (get_or (take (length nexts) (storage_nodes entries)) k 0) ≡ line_at entries nexts (get_or (take (length nexts) (storage_nodes entries)) k 0)
line_at-earlier entries nexts added k below =
    let storage = storage_nodes entries in
    let node = get_or (take (length nexts) storage) k 0 in
    let earlier : k < length nexts = omega (arith, below, length-take (length nexts) storage) in
    let inside : k < length storage = omega (arith, below, length-take (length nexts) storage) in
    let here : get_or storage k 0 ≡ node = sym (get_or-take (length nexts) storage k 0 earlier) in
    let is = storage_nodes-at entries k node (slice_get-get_or storage k 0 inside ∙ ap Some here) in
    let same : get_or (nexts ++ added ∷ []) (storage_before entries node) no_rails ≡ get_or nexts (storage_before entries node) no_rails =
    get_or_append_left nexts (added ∷ []) no_rails (storage_before entries node) (omega (arith, is.before)) in
    ap (next_line node) same

-- the next states of a listing and one more
next_part-push : (entries : List Entry) (nexts : List Output) (node : ℕ) (added : Output)
    → slice_get (storage_nodes entries) (length nexts) ≡ Some node
    → next_part entries (nexts ++ added ∷ []) ≡ next_part entries nexts ++ next_line node added
next_part-push entries nexts node added found =
    let storage = storage_nodes entries in
    let m = length nexts in
    let more = nexts ++ added ∷ [] in
    let inside = slice_get_within storage m node found in
    let front : take (m + 1) storage ≡ take m storage ++ node ∷ [] =
    take_more storage m 0 inside ∙ ap (λ last. take m storage ++ last ∷ []) (get_or_from_slice_get storage m node 0 found) in
    let here : line_at entries more node ≡ next_line node added =
    ap (λ place. next_line node (get_or more place no_rails)) (storage_nodes-at entries m node found).before
    ∙ ap (next_line node) (get_or_push nexts added no_rails m refl) in
    ap (λ count. flat_map (line_at entries more) (take count storage)) (length_push nexts added)
    ∙ ap (flat_map (line_at entries more)) front
    ∙ flat_map-append (line_at entries more) (take m storage) (node ∷ [])
    ∙ ap (λ lines. lines ++ (line_at entries more node ++ [])) (flat_map-same (line_at entries more) (line_at entries nexts) (take m storage) (λ k below. line_at-earlier entries nexts added k below))
    ∙ ap (λ line. next_part entries nexts ++ line) (append-nil (line_at entries more node) ∙ here)

-- the text of a partial listing with one line more
pub partial_text-added : (listing : ListingData) (added : Added) → Fits listing added
    → partial_text (with_added listing added) ≡ partial_text listing ++ whole_line listing added
partial_text-added listing (entry added) fits =
    let line = node_line (length listing.entries) added in
    let more : node_lines 0 (listing.entries ++ added ∷ []) ≡ node_lines 0 listing.entries ++ line =
    lines_from-push node_line 0 listing.entries added ∙ ap (λ k. node_lines 0 listing.entries ++ node_line k added) (omega arith) in
    rw (fits.0, fits.1)
    (append-nil (node_lines 0 (listing.entries ++ added ∷ [])) ∙ more ∙ ap (λ front. front ++ line) (sym (append-nil (node_lines 0 listing.entries)))
    ∙ ap (λ last. node_lines 0 listing.entries ++ [] ++ last) (node_line-bare (length listing.entries) added))
partial_text-added listing (instruction added) fits =
    let nodes = node_lines 0 listing.entries in
    let before = instruction_lines 0 listing.instructions in
    let line = instruction_line (length listing.instructions) added in
    let more : instruction_lines 0 (listing.instructions ++ added ∷ []) ≡ before ++ line =
    lines_from-push instruction_line 0 listing.instructions added ∙ ap (λ k. before ++ instruction_line k added) (omega arith) in
    rw fits.0
    (ap (λ lines. nodes ++ lines) (append-nil (instruction_lines 0 (listing.instructions ++ added ∷ [])) ∙ more ∙ ap (λ front. front ++ line) (sym (append-nil before)))
    ∙ sym (append_assoc nodes (before ++ []) line)
    ∙ ap (λ last. nodes ++ (before ++ []) ++ last) (instruction_line-bare (length listing.instructions) added))
partial_text-added listing (next node added) fits =
    let nodes = node_lines 0 listing.entries in
    let before = instruction_lines 0 listing.instructions in
    let moved = next_part listing.entries listing.nexts in
    let line = next_line node added in
    ap (λ lines. nodes ++ (before ++ lines)) (next_part-push listing.entries listing.nexts node added fits.0)
    ∙ ap (λ lines. nodes ++ lines) (sym (append_assoc before moved line))
    ∙ sym (append_assoc nodes (before ++ moved) line)
    ∙ ap (λ last. nodes ++ (before ++ moved) ++ last) (next_line-bare node added)

-- there is one line more
pub line_count-added : (listing : ListingData) (added : Added) → line_count (with_added listing added) ≡ line_count listing + 1
line_count-added listing (entry added) = omega (arith, length_push listing.entries added)
line_count-added listing (instruction added) = omega (arith, length_push listing.instructions added)
line_count-added listing (next node added) = omega (arith, length_push listing.nexts added)

-- each instruction reads what it may
abbrev Reads : ℕ → List Instruction → Type 0
Reads nodes instructions =
    (k : ℕ) (instruction : Instruction) → slice_get instructions k ≡ Some instruction → AreAllowed nodes k instruction

-- an instruction that reads what it may follows
AreAllowed-push : (instructions : List Instruction) (added : Instruction) (nodes : ℕ) → Reads nodes instructions
    → AreAllowed nodes (length instructions) added → Reads nodes (instructions ++ added ∷ [])
AreAllowed-push instructions added nodes reads allowed k read found =
    let whole = instructions ++ added ∷ [] in
    let inside = slice_get_within whole k read found in
    let is : get_or whole k added ≡ read = get_or_from_slice_get whole k read added found in
    elim (cases_lt k (length instructions)) [
      | inl earlier ↦
          let here : get_or instructions k added ≡ read = sym (get_or_append_left instructions (added ∷ []) added k earlier) ∙ is in
          reads k read (slice_get-get_or instructions k added earlier ∙ ap Some here)
      | inr last ↦
          let place : length instructions ≡ k = omega (arith, inside, length_push instructions added) in
          let here : added ≡ read = sym (get_or_push instructions added added k place) ∙ is in
          rw (← here, ← place) allowed
    ]

-- what fits makes a partial listing
pub IsPartial-added : (listing : ListingData) (added : Added) → IsPartial listing → Fits listing added → IsPartial (with_added listing added)
IsPartial-added listing (entry added) partial fits =
    let entries = listing.entries ++ added ∷ [] in
    rw (fits.0, fits.1) (record {
      names = All-push (λ entry. IsVisibleName entry.name) listing.entries added partial.names fits.2;
      reads = λ k instruction found. absurd (omega (arith, slice_get_within [] k instruction found));
      some_next = omega arith;
      nexts = All-nil (IsOutput (length entries) 0);
    })
IsPartial-added listing (instruction added) partial fits =
    let count = length (listing.instructions ++ added ∷ []) in
    rw fits.0 (record {
      names = partial.names;
      reads = λ k instruction found. AreAllowed-push listing.instructions added (length listing.entries) partial.reads fits.1 k instruction found;
      some_next = omega arith;
      nexts = All-nil (IsOutput (length listing.entries) count);
    })
IsPartial-added listing (next node added) partial fits =
    let inside = slice_get_within (storage_nodes listing.entries) (length listing.nexts) node fits.0 in
    record {
      names = partial.names;
      reads = partial.reads;
      some_next = omega (arith, inside, length-storage_nodes listing.entries, length_push listing.nexts added);
      nexts = All-push (IsOutput (length listing.entries) (length listing.instructions)) listing.nexts added partial.nexts fits.1;
    }

-- the listing of these
abbrev pub listed : List Entry → List Instruction → List Output → ListingData
listed entries instructions nexts = record { entries = entries; instructions = instructions; nexts = nexts }

-- a partial listing that another one makes with one line more
pub record IsMade (listing : ListingData) : Type 0 where
  pub old : ListingData
  pub added : Added
  pub partial : IsPartial old
  pub fits : Fits old added
  pub made : listing ≡ with_added old added

-- a list is empty or has a last element
last_of : {X : Type 0} (xs : List X) → ((front : List X) × (last : X) × (xs ≡ front ++ last ∷ [])) ⊎ (xs ≡ [])
last_of [] = inr refl
last_of (x ∷ xs) = elim (last_of xs) [
  | inl more ↦ inl (x ∷ more.0, more.1, ap (λ others. x ∷ others) more.2)
  | inr none ↦ inl ([], x, ap (λ others. x ∷ others) none)
]

-- all of a front
All-front : {X : Type 0} (P : X → Type 0) (front : List X) (last : X) (xs : List X) → xs ≡ front ++ last ∷ [] → All P xs → All P front × P last
All-front P [] last xs whole all =
    let here : All P (last ∷ []) = rw whole at all in
    (All-nil P, All-head P last [] here)
All-front P (x ∷ front) last xs whole all =
    let here : All P (x ∷ (front ++ last ∷ [])) = rw whole at all in
    let more = All-front P front last (front ++ last ∷ []) refl (All-tail P x (front ++ last ∷ []) here) in
    (All-cons P x front (All-head P x (front ++ last ∷ []) here) more.0, more.1)

-- what stands in a front stands in the whole
slice_get-front : {X : Type 0} (front : List X) (last : X) (k : ℕ) (x : X) → slice_get front k ≡ Some x → slice_get (front ++ last ∷ []) k ≡ Some x
slice_get-front front last k x found =
    let inside = slice_get_within front k x found in
    let whole : k < length (front ++ last ∷ []) = omega (arith, inside, length_push front last) in
    slice_get-get_or (front ++ last ∷ []) k x whole
    ∙ ap Some (get_or_append_left front (last ∷ []) x k inside ∙ get_or_from_slice_get front k x x found)

-- the last element
slice_get-last : {X : Type 0} (front : List X) (last : X) → slice_get (front ++ last ∷ []) (length front) ≡ Some last
slice_get-last front last =
    slice_get-get_or (front ++ last ∷ []) (length front) last (omega (arith, length_push front last))
    ∙ ap Some (get_or_push front last last (length front) refl)

-- its last line is a next state
IsMade-next : (listing : ListingData) → IsPartial listing → (nexts : List Output) (added : Output) → listing.nexts ≡ nexts ++ added ∷ [] → IsMade listing
IsMade-next listing partial nexts added whole =
    let entries = listing.entries in
    let instructions = listing.instructions in
    let long = ap length whole ∙ length_push nexts added in
    let node = get_or (storage_nodes entries) (length nexts) 0 in
    let parts = All-front (IsOutput (length entries) (length instructions)) nexts added listing.nexts whole partial.nexts in
    record {
      old = record { entries = entries; instructions = instructions; nexts = nexts };
      added = next node added;
      partial = record { names = partial.names; reads = partial.reads; some_next = omega (arith, partial.some_next, long); nexts = parts.0 };
      fits = (slice_get-get_or (storage_nodes entries) (length nexts) 0 (omega (arith, partial.some_next, long, length-storage_nodes entries)), parts.1);
      made = ap (λ found. listed entries instructions found) whole;
    }

-- its last line is an instruction
IsMade-instruction : (listing : ListingData) → IsPartial listing → (instructions : List Instruction) (added : Instruction)
    → listing.instructions ≡ instructions ++ added ∷ [] → listing.nexts ≡ [] → IsMade listing
IsMade-instruction listing partial instructions added whole none =
    let entries = listing.entries in
    let reads : Reads (length entries) (instructions ++ added ∷ []) = rw whole at partial.reads in
    record {
      old = listed entries instructions [];
      added = instruction added;
      partial = record {
        names = partial.names;
        reads = λ k read found. reads k read (slice_get-front instructions added k read found);
        some_next = omega arith;
        nexts = All-nil (IsOutput (length entries) (length instructions));
      };
      fits = (refl, reads (length instructions) added (slice_get-last instructions added));
      made = ap (λ found. listed entries found listing.nexts) whole ∙ ap (λ found. listed entries (instructions ++ added ∷ []) found) none;
    }

-- its last line is a node
IsMade-entry : (listing : ListingData) → IsPartial listing → (entries : List Entry) (added : Entry) → listing.entries ≡ entries ++ added ∷ []
    → listing.instructions ≡ [] → listing.nexts ≡ [] → IsMade listing
IsMade-entry listing partial entries added whole empty none =
    let parts = All-front (λ entry. IsVisibleName entry.name) entries added listing.entries whole partial.names in
    record {
      old = listed entries [] [];
      added = entry added;
      partial = record {
        names = parts.0;
        reads = λ k read found. absurd (omega (arith, slice_get_within [] k read found));
        some_next = omega arith;
        nexts = All-nil (IsOutput (length entries) 0);
      };
      fits = (refl, refl, parts.1);
      made =
          ap (λ found. listed found listing.instructions listing.nexts) whole ∙ ap (λ found. listed (entries ++ added ∷ []) found listing.nexts) empty
          ∙ ap (listed (entries ++ added ∷ []) []) none;
    }

-- each partial listing with a line is made so
pub IsMade-of : (listing : ListingData) (count : ℕ) → IsPartial listing → line_count listing ≡ count + 1 → IsMade listing
IsMade-of listing count partial lines =
    elim (last_of listing.nexts) [
      | inl moved ↦ IsMade-next listing partial moved.0 moved.1 moved.2
      | inr none ↦
          elim (last_of listing.instructions) [
            | inl done ↦ IsMade-instruction listing partial done.0 done.1 done.2 none
            | inr empty ↦
                elim (last_of listing.entries) [
                  | inl named ↦ IsMade-entry listing partial named.0 named.1 named.2 empty none
                  | inr nothing ↦ absurd (omega (arith, lines, ap length none, ap length empty, ap length nothing))
                ]
          ]
    ]

-- the bytes of two texts
IsFrom-append : (front rest : List ℕ) → IsFrom 32 front → IsFrom 32 rest → IsFrom 32 (front ++ rest)
IsFrom-append front rest one two = All-append (λ byte. 32 ≤ byte) front rest one two

-- the bytes of a number
IsFrom-digits : (n : ℕ) → n < 2 ^ 64 → IsFrom 32 (decimal n)
IsFrom-digits n small = All-weaker (λ byte. 48 ≤ byte) (λ byte. 32 ≤ byte) (λ byte h. omega arith) (decimal n) (IsFrom-decimal n small)

-- the letter of a kind
IsFrom-kind : (is_storage : Bool) → IsFrom 32 (kind_letter is_storage)
IsFrom-kind true = All-cons (λ byte. 32 ≤ byte) 115 [] (omega arith) (All-nil (λ byte. 32 ≤ byte))
IsFrom-kind false = All-cons (λ byte. 32 ≤ byte) 105 [] (omega arith) (All-nil (λ byte. 32 ≤ byte))

-- the nodes and results of a listing of few lines are few
IsSmall-of : (listing : ListingData) → line_count listing < 2 ^ 64 → IsSmall (length listing.entries) (length listing.instructions)
IsSmall-of listing small = record { few_nodes = omega arith; few_results = omega arith }

-- a line has no LF but its last byte
pub Lacks-bare_line : (listing : ListingData) (added : Added) → line_count listing < 2 ^ 64 → Fits listing added → Lacks 10 (bare_line listing added)
Lacks-bare_line listing (entry added) small fits =
    let name : IsFrom 32 added.name = All-weaker (λ byte. (33 ≤ byte) × (byte ≤ 126)) (λ byte. 32 ≤ byte) (λ byte h. omega (arith, h.0)) added.name fits.2.visible in
    Lacks-from 10 32 (bare_line listing (entry added)) (omega arith)
    (IsFrom-append (codes "node ") _ (search rules) (IsFrom-append (decimal (length listing.entries)) _ (IsFrom-digits (length listing.entries) (omega arith))
    (IsFrom-append (codes " ") _ (search rules) (IsFrom-append (kind_letter added.is_storage) _ (IsFrom-kind added.is_storage) (IsFrom-append (codes " ") _ (search rules) name)))))
Lacks-bare_line listing (instruction added) small fits =
    let nodes = length listing.entries in
    let results = length listing.instructions in
    Lacks-from 10 32 (bare_line listing (instruction added)) (omega arith)
    (IsFrom-append (codes "t") _ (search rules) (IsFrom-append (decimal results) _ (IsFrom-digits results (omega arith))
    (IsFrom-append (codes " = ") _ (search rules) (IsFrom-instruction nodes results added (IsSmall-of listing small) fits.1))))
Lacks-bare_line listing (next node added) small fits =
    let nodes = length listing.entries in
    let results = length listing.instructions in
    let inside = (storage_nodes-at listing.entries (length listing.nexts) node fits.0).inside in
    Lacks-from 10 32 (bare_line listing (next node added)) (omega arith)
    (IsFrom-append (codes "next ") _ (search rules) (IsFrom-append (decimal node) _ (IsFrom-digits node (omega arith))
    (IsFrom-append (codes " ") _ (search rules) (IsFrom-output nodes results added (IsSmall-of listing small) fits.1))))

-- the node of this kind and name
abbrev entry_with : Bool → List ℕ → Entry
entry_with is_storage name = record { is_storage = is_storage; name = name }

-- nodes with the same letter and name are the same
kind_and_name-same : (one two : Bool) (first second : List ℕ) → kind_letter one ++ (codes " " ++ first) ≡ kind_letter two ++ (codes " " ++ second)
    → entry_with one first ≡ entry_with two second
kind_and_name-same true true first second same = ap (entry_with true) (cc)
kind_and_name-same false false first second same = ap (entry_with false) (cc)
kind_and_name-same true false first second same = absurd (omega (arith, ap (λ text. get_or text 0 0) same))
kind_and_name-same false true first second same = absurd (omega (arith, ap (λ text. get_or text 0 0) same))

-- the same line adds the same
pub bare_line-same : (listing : ListingData) (a b : Added) → line_count listing < 2 ^ 64 → Fits listing a → Fits listing b
    → bare_line listing a ≡ bare_line listing b → a ≡ b
bare_line-same listing (entry a) (entry b) small first second same =
    let behind = append_cancel_left (decimal (length listing.entries)) _ _ (append_cancel_left (codes "node ") _ _ same) in
    ap entry (kind_and_name-same a.is_storage b.is_storage a.name b.name (append_cancel_left (codes " ") _ _ behind))
bare_line-same listing (instruction a) (instruction b) small first second same =
    let behind = append_cancel_left (decimal (length listing.instructions)) _ _ (append_cancel_left (codes "t") _ _ same) in
    ap instruction (instruction_text-same (length listing.entries) (length listing.instructions) a b (IsSmall-of listing small) first.1 second.1
    (append_cancel_left (codes " = ") _ _ behind))
bare_line-same listing (next node a) (next other b) small first second same =
    let here : node ≡ other = (let found = sym first.0 ∙ second.0 in cc) in
    let line : bare_line listing (next node a) ≡ bare_line listing (next node b) = rw (← here) at same in
    let behind = append_cancel_left (decimal node) _ _ (append_cancel_left (codes "next ") _ _ line) in
    let output = output_text-same (length listing.entries) (length listing.instructions) a b (IsSmall-of listing small) first.1 second.1
    (append_cancel_left (codes " ") _ _ behind) in
    cc
bare_line-same listing (entry a) (instruction b) small first second same = absurd (omega (arith, ap (λ text. get_or text 0 0) same))
bare_line-same listing (instruction a) (entry b) small first second same = absurd (omega (arith, ap (λ text. get_or text 0 0) same))
bare_line-same listing (next node a) (instruction b) small first second same = absurd (omega (arith, ap (λ text. get_or text 0 0) same))
bare_line-same listing (instruction a) (next other b) small first second same = absurd (omega (arith, ap (λ text. get_or text 0 0) same))
bare_line-same listing (next node a) (entry b) small first second same = absurd (omega (arith, ap (λ text. get_or text 1 0) same))
bare_line-same listing (entry a) (next other b) small first second same = absurd (omega (arith, ap (λ text. get_or text 1 0) same))
