-- Laws of the names beside the places of the first ones: they stay well formed as names are added, and what was added can be cut off.
use Rattle.std.proofs.Common.{◌≡◌, ◌≢◌, ℕ, zero, suc, ◌+◌, ◌-◌, ◌<◌, ◌≤◌, Bool, true, false, bytes_eq, if◌then◌else◌, option_map, Decides, add-one, List, [], ◌∷◌, ◌++◌, length, None, Some, is_some, codes, ◌==◌, slice_get, slice_index, get_or, refl, sym, ap, ◌∙◌, subst, inl, inr, arith, All, length-append, append_assoc, take, Vec, Result, Ok, Err, OnOk, OnErr, IfOk}
use Rattle.std.specs.List.{take-map}
use Rattle.std.proofs.Math.Seq.{take-append_seam, take-suc}
use Rattle.std.proofs.lemmas.Slice.Eq.{bytes_eq-Decides}
use Rattle.std.proofs.lemmas.Bool.{cases_lt, cond-false, cond_both, ne_eqb, eqb-false}
use Rattle.std.proofs.lemmas.List.{append-nil, ext_get_or, get_or_append_left, get_or_push}
use Rattle.std.proofs.lemmas.List.Elements.{All-get_or, All-push, All-weaker}
use Rattle.std.proofs.lemmas.Option.{slice_get-get_or, slice_get_within, slice_get-map, get_or_from_slice_get}
use Rattle.std.specs.declared.alloc.Global.{Global}
use Rattle.switch_paths.specs.declared.TheConstants.{GND, VDD, RAILS}
use Rattle.netlist.specs.Names.{StandOnce, first_name, held, name_at, node_of}
use Rattle.netlist.specs.Naming.{NamesData, node_count, IsFirst, IsNaming, Extends, HasNode, entries_of, with_first, with_name, with_names, with_more, cut}
use Rattle.netlist.proofs.NameLemmas.{first_name-append, first_name-added, node_of-append, node_of-added}

-- a node that is no rail is called by its first name
pub name_at-no_rail : (names : List (List ℕ × ℕ)) (node : ℕ) → RAILS ≤ node → name_at names node ≡ first_name names node
name_at-no_rail names node past =
    cond-false (node == GND) _ _ (ne_eqb node GND (λ same. omega arith))
    ∙ cond-false (node == VDD) _ _ (ne_eqb node VDD (λ same. omega arith))

-- each node but the rails has its first name at its place
pub first_of_node : (naming : NamesData) (node : ℕ) → IsNaming naming → RAILS ≤ node → node < node_count naming →
    IsFirst naming.entries node (slice_index naming.firsts (node - RAILS))
first_of_node naming node is past low =
    let same : node - RAILS + RAILS ≡ node = omega arith in
    subst (λ n. IsFirst naming.entries n (slice_index naming.firsts (node - RAILS))) same (is.first (node - RAILS) (omega arith))

-- each node has a name
pub is_some-name_at : (naming : NamesData) (node : ℕ) → IsNaming naming → node < node_count naming → is_some (name_at naming.entries node) ≡ true
is_some-name_at naming node is low =
    cond_both (node == GND) (Some (codes "Gnd")) _ (λ name. is_some name ≡ true) (λ _. refl)
    (λ no_gnd. cond_both (node == VDD) (Some (codes "Vdd")) _ (λ name. is_some name ≡ true) (λ _. refl)
    (λ no_vdd.
    let gnd : node ≢ GND = eqb-false node GND no_gnd in
    let vdd : node ≢ VDD = eqb-false node VDD no_vdd in
    ap is_some (first_of_node naming node is (omega arith) low).first))

-- an entry keeps its place where more come after
slice_get-append : (entries more : List (List ℕ × ℕ)) (place : ℕ) (entry : List ℕ × ℕ) → slice_get entries place ≡ Some entry →
    slice_get (entries ++ more) place ≡ Some entry
slice_get-append entries more place entry stands =
    let low : place < length entries = slice_get_within entries place entry stands in
    slice_get-get_or (entries ++ more) place entry (omega (arith, length-append entries more))
    ∙ ap Some (get_or_append_left entries more entry place low ∙ get_or_from_slice_get entries place entry entry stands)

-- and a first name stays the first
IsFirst-append : (entries more : List (List ℕ × ℕ)) (node place : ℕ) → IsFirst entries node place → IsFirst (entries ++ more) node place
IsFirst-append entries more node place is = record {
  name = is.name;
  stands = slice_get-append entries more place (is.name, node) is.stands;
  first = first_name-append entries more node is.name is.first;
}

-- the name that is added for a node past those that have names is its first
IsFirst-added : (entries : List (List ℕ × ℕ)) (name : List ℕ) (node : ℕ) → All (λ entry. entry.1 < node) entries →
    IsFirst (entries ++ (name, node) ∷ []) node (length entries)
IsFirst-added entries name node within = record {
  name = name;
  stands =
      slice_get-get_or (entries ++ (name, node) ∷ []) (length entries) (name, node) (omega (arith, length-append entries ((name, node) ∷ [])))
      ∙ ap Some (get_or_push entries (name, node) (name, node) (length entries) refl);
  first = first_name-added entries node name within;
}

-- names stand for their nodes with one more that wasn't in use
pub found-added : (entries : List (List ℕ × ℕ)) (name : List ℕ) (node : ℕ) → node_of entries name ≡ None →
    All (λ entry. node_of entries entry.0 ≡ Some entry.1) entries →
    All (λ entry. node_of (entries ++ (name, node) ∷ []) entry.0 ≡ Some entry.1) (entries ++ (name, node) ∷ [])
found-added entries name node unused found =
    All-push (λ (e : List ℕ × ℕ). node_of (entries ++ (name, node) ∷ []) e.0 ≡ Some e.1) entries (name, node)
    (All-weaker (λ (e : List ℕ × ℕ). node_of entries e.0 ≡ Some e.1) (λ (e : List ℕ × ℕ). node_of (entries ++ (name, node) ∷ []) e.0 ≡ Some e.1)
    (λ e here. node_of-append entries ((name, node) ∷ []) e.0 e.1 here) entries found)
    (node_of-added entries name node unused)

-- an entry at a place that there was stood there before more came after
slice_get-old : (entries more : List (List ℕ × ℕ)) (place : ℕ) (entry : List ℕ × ℕ) → place < length entries →
    slice_get (entries ++ more) place ≡ Some entry → slice_get entries place ≡ Some entry
slice_get-old entries more place entry low stands =
    slice_get-get_or entries place entry low
    ∙ ap Some (sym (get_or_append_left entries more entry place low) ∙ get_or_from_slice_get (entries ++ more) place entry entry stands)

-- a name that isn't in use stands nowhere
stands_nowhere : (entries : List (List ℕ × ℕ)) (name : List ℕ) (place node : ℕ) → node_of entries name ≡ None →
    All (λ entry. node_of entries entry.0 ≡ Some entry.1) entries → slice_get entries place ≢ Some (name, node)
stands_nowhere entries name place node unused found stands =
    let low : place < length entries = slice_get_within entries place (name, node) stands in
    let here : node_of entries name ≡ Some node =
    subst (λ (e : List ℕ × ℕ). node_of entries e.0 ≡ Some e.1) (get_or_from_slice_get entries place (name, node) (name, node) stands)
    (found place (name, node) low) in
    cc

-- names stand once with one more that wasn't in use
pub once-added : (entries : List (List ℕ × ℕ)) (name : List ℕ) (node : ℕ) → node_of entries name ≡ None →
    All (λ entry. node_of entries entry.0 ≡ Some entry.1) entries → StandOnce entries → StandOnce (entries ++ (name, node) ∷ [])
once-added entries name node unused found once i j same one other at_i at_j =
    let more = (name, node) ∷ [] in
    let grown = length-append entries more in
    let low_i : i < length (entries ++ more) = slice_get_within (entries ++ more) i (same, one) at_i in
    let low_j : j < length (entries ++ more) = slice_get_within (entries ++ more) j (same, other) at_j in
    elim (cases_lt i (length entries)) [
      | inl old_i ↦ elim (cases_lt j (length entries)) [
        | inl old_j ↦ once i j same one other (slice_get-old entries more i (same, one) old_i at_i) (slice_get-old entries more j (same, other) old_j at_j)
        | inr past_j ↦
            absurd (stands_nowhere entries name i one unused found
            (slice_get-old entries more i (same, one) old_i at_i ∙ ap (λ n. Some (n, one)) (last j other past_j low_j at_j)))
      ]
      | inr past_i ↦ elim (cases_lt j (length entries)) [
        | inl old_j ↦
            absurd (stands_nowhere entries name j other unused found
            (slice_get-old entries more j (same, other) old_j at_j ∙ ap (λ n. Some (n, other)) (last i one past_i low_i at_i)))
        | inr past_j ↦ omega (arith, grown, low_i, low_j, past_i, past_j)
      ]
    ]
  where
    last : (place was : ℕ) → length entries ≤ place → place < length (entries ++ (name, node) ∷ []) →
        slice_get (entries ++ (name, node) ∷ []) place ≡ Some (same, was) → same ≡ name
    last place was past low stands =
        let end : length entries ≡ place = omega (arith, length-append entries ((name, node) ∷ [])) in
        let entry : get_or (entries ++ (name, node) ∷ []) place (same, was) ≡ (same, was) =
        get_or_from_slice_get (entries ++ (name, node) ∷ []) place (same, was) (same, was) stands in
        ap (λ (e : List ℕ × ℕ). e.0) (sym entry ∙ get_or_push entries (name, node) (same, was) place end)

-- names stay well formed with one more name of a node
pub IsNaming-with_more : (naming : NamesData) (name : List ℕ) (node : ℕ) → IsNaming naming → node_of naming.entries name ≡ None →
    node < node_count naming → IsNaming (with_more naming name node)
IsNaming-with_more naming name node is unused low = record {
  within = All-push (λ (e : List ℕ × ℕ). e.1 < node_count naming) naming.entries (name, node) is.within low;
  found = found-added naming.entries name node unused is.found;
  once = once-added naming.entries name node unused is.found is.once;
  first = λ k inside. IsFirst-append naming.entries ((name, node) ∷ []) (k + RAILS) (slice_index naming.firsts k) (is.first k inside);
}

-- and with the first name of a new node
pub IsNaming-with_first : (naming : NamesData) (name : List ℕ) → IsNaming naming → node_of naming.entries name ≡ None → IsNaming (with_first naming name)
IsNaming-with_first naming name is unused =
    let grown = length-append naming.firsts (length naming.entries ∷ []) in
    let entries = naming.entries ++ (name, node_count naming) ∷ [] in
    record {
      within = All-push (λ (e : List ℕ × ℕ). e.1 < node_count (with_first naming name)) naming.entries (name, node_count naming)
          (All-weaker (λ (e : List ℕ × ℕ). e.1 < node_count naming) (λ (e : List ℕ × ℕ). e.1 < node_count (with_first naming name))
          (λ entry low. omega (arith, grown)) naming.entries is.within)
          (omega (arith, grown));
      found = found-added naming.entries name (node_count naming) unused is.found;
      once = once-added naming.entries name (node_count naming) unused is.found is.once;
      first = λ k inside. elim (cases_lt k (length naming.firsts)) [
        | inl old ↦
            subst (IsFirst entries (k + RAILS)) (sym (get_or_append_left naming.firsts (length naming.entries ∷ []) 0 k old))
            (IsFirst-append naming.entries ((name, node_count naming) ∷ []) (k + RAILS) (slice_index naming.firsts k) (is.first k old))
        | inr past ↦
            let last : length naming.firsts ≡ k = omega (arith, grown) in
            let node : node_count naming ≡ k + RAILS = omega arith in
            subst (λ n. IsFirst entries n (slice_index (naming.firsts ++ length naming.entries ∷ []) k)) node
            (subst (IsFirst entries (node_count naming)) (sym (get_or_push naming.firsts (length naming.entries) 0 k last))
            (IsFirst-added naming.entries name (node_count naming) is.within))
      ];
    }

-- names extend themselves
pub Extends-same : (naming : NamesData) → Extends naming naming
Extends-same naming = record { names = []; nodes = []; entries = sym (append-nil naming.entries); firsts = sym (append-nil naming.firsts) }

-- what extends later names extends the earlier ones
pub Extends-on : {one two three : NamesData} → Extends one two → Extends two three → Extends one three
Extends-on {one} {two} {three} first second = record {
  names = first.names ++ second.names;
  nodes = first.nodes ++ second.nodes;
  entries = second.entries ∙ ap (λ es. es ++ second.names) first.entries ∙ append_assoc one.entries first.names second.names;
  firsts = second.firsts ∙ ap (λ ns. ns ++ second.nodes) first.firsts ∙ append_assoc one.firsts first.nodes second.nodes;
}

-- a name that is made in use extends the names
pub Extends-with_name : (naming : NamesData) (name : List ℕ) → Extends naming (with_name naming name)
Extends-with_name naming name =
    cond_both (is_some (node_of naming.entries name)) naming (with_first naming name) (Extends naming)
    (λ _. Extends-same naming)
    (λ _. record { names = (name, node_count naming) ∷ []; nodes = length naming.entries ∷ []; entries = refl; firsts = refl })

-- so do several
pub Extends-with_names : (naming : NamesData) (names : List (List ℕ)) → Extends naming (with_names naming names)
Extends-with_names naming [] = Extends-same naming
Extends-with_names naming (name ∷ names) =
    Extends-on (Extends-with_name naming name) (Extends-with_names (with_name naming name) names)

-- so does one that became the first name of a new node, or didn't out of memory
pub Extends-added_first : {T E : Type 0} (result : Result T E) (old new : NamesData) (name : List ℕ) →
    OnOk result (new ≡ with_first old name) → OnErr result (new ≡ old) → Extends old new
Extends-added_first (Ok u) old new name made same =
    subst (Extends old) (sym made)
    (record { names = (name, node_count old) ∷ []; nodes = length old.entries ∷ []; entries = refl; firsts = refl })
Extends-added_first (Err e) old new name made same = subst (Extends old) (sym same) (Extends-same old)

-- and one that became one more name of a node, or didn't
pub Extends-added_more : {T E : Type 0} (result : Result T E) (old new : NamesData) (name : List ℕ) (node : ℕ) →
    OnOk result (new ≡ with_more old name node) → OnErr result (new ≡ old) → Extends old new
Extends-added_more (Ok u) old new name node made same =
    subst (Extends old) (sym made) (record { names = (name, node) ∷ []; nodes = []; entries = refl; firsts = sym (append-nil old.firsts) })
Extends-added_more (Err e) old new name node made same = subst (Extends old) (sym same) (Extends-same old)

-- names that extend others have as many nodes at least
pub node_count-Extends : (one two : NamesData) → Extends one two → node_count one ≤ node_count two
node_count-Extends one two grown = omega (arith, ap length grown.firsts, length-append one.firsts grown.nodes)

-- a name in use keeps its node in names that extend these
pub HasNode-Extends : {one two : NamesData} {name : List ℕ} {node : ℕ} → HasNode one name node → Extends one two → HasNode two name node
HasNode-Extends {one} {two} {name} {node} has grown = record {
  found = ap (λ entries. node_of entries name) grown.entries ∙ node_of-append one.entries grown.names name node has.found;
  within = omega (arith, node_count-Extends one two grown, has.within);
}

-- names that were extended are as before once what came after is cut off
pub cut-Extends : (earlier later : NamesData) → Extends earlier later → cut later (length earlier.entries) (length earlier.firsts) ≡ earlier
cut-Extends earlier later grown =
    let entries : take (length earlier.entries) later.entries ≡ earlier.entries =
    ap (take (length earlier.entries)) grown.entries ∙ take-append_seam earlier.entries grown.names in
    let firsts : take (length earlier.firsts) later.firsts ≡ earlier.firsts =
    ap (take (length earlier.firsts)) grown.firsts ∙ take-append_seam earlier.firsts grown.nodes in
    λ j. record { entries = entries j; firsts = firsts j }

-- what is left of a table and of the places beside it
pub cut-entries_of : (table rest : List (Vec ℕ Global × ℕ)) (firsts left : List ℕ) (names nodes : ℕ) (before : NamesData) →
    record { entries = entries_of table; firsts = firsts } ≡ before → rest ≡ take names table → left ≡ take nodes firsts →
    record { entries = entries_of rest; firsts = left } ≡ cut before names nodes
cut-entries_of table rest firsts left names nodes before seen table_cut firsts_cut =
    let entries : entries_of rest ≡ take names (entries_of table) =
    ap entries_of table_cut ∙ sym (take-map (λ (entry : Vec ℕ Global × ℕ). (entry.0.items, entry.1)) names table) in
    let both : record { entries = entries_of rest; firsts = left } ≡ cut (record { entries = entries_of table; firsts = firsts }) names nodes =
    λ j. record { entries = entries j; firsts = firsts_cut j } in
    both ∙ ap (λ (naming : NamesData). cut naming names nodes) seen

-- names to which the first name of a new node was added are well formed
pub IsNaming-added_first : (naming : NamesData) (entries : List (List ℕ × ℕ)) (firsts : List ℕ) (name : List ℕ) (node place : ℕ) →
    IsNaming naming → node_of naming.entries name ≡ None → node ≡ node_count naming → place ≡ length naming.entries →
    entries ≡ naming.entries ++ (name, node) ∷ [] → firsts ≡ naming.firsts ++ place ∷ [] → IsNaming (record { entries = entries; firsts = firsts })
IsNaming-added_first naming entries firsts name node place is unused at_end there more grown =
    let e : entries ≡ naming.entries ++ (name, node_count naming) ∷ [] = more ∙ ap (λ n. naming.entries ++ (name, n) ∷ []) at_end in
    let f : firsts ≡ naming.firsts ++ length naming.entries ∷ [] = grown ∙ ap (λ p. naming.firsts ++ p ∷ []) there in
    let same : record { entries = entries; firsts = firsts } ≡ with_first naming name = λ j. record { entries = e j; firsts = f j } in
    subst IsNaming (sym same) (IsNaming-with_first naming name is unused)

-- the node that was made for a name is that of the name
pub node_of-first : (old new : NamesData) (name : List ℕ) (node : ℕ) → node_of old.entries name ≡ None → new ≡ with_first old name →
    node ≡ node_count old → node_of new.entries name ≡ Some node
node_of-first old new name node unused made number =
    ap (λ (naming : NamesData). node_of naming.entries name) made ∙ node_of-added old.entries name (node_count old) unused ∙ ap Some (sym number)

-- so the name is in use for it, if one was made
pub HasNode-added_first : {E : Type 0} (result : Result ℕ E) (old new : NamesData) (name : List ℕ) → node_of old.entries name ≡ None →
    OnOk result (new ≡ with_first old name) → IfOk result (λ node. node ≡ node_count old) → IfOk result (λ node. HasNode new name node)
HasNode-added_first (Err e) old new name unused made number = tt
HasNode-added_first (Ok node) old new name unused made number = record {
  found = node_of-first old new name node unused made number;
  within = omega (arith, ap node_count made, length-append old.firsts (length old.entries ∷ []));
}

-- names to which one more name of a node was added, or none, are well formed
pub IsNaming-added_more : {T E : Type 0} (result : Result T E) (naming : NamesData) (entries : List (List ℕ × ℕ)) (name : List ℕ) (node : ℕ) →
    IsNaming naming → node_of naming.entries name ≡ None → node < node_count naming →
    OnOk result (entries ≡ naming.entries ++ (name, node) ∷ []) → OnErr result (entries ≡ naming.entries) → IsNaming (record { entries = entries; firsts = naming.firsts })
IsNaming-added_more (Ok u) naming entries name node is unused low more same =
    subst (λ es. IsNaming (record { entries = es; firsts = naming.firsts })) (sym more) (IsNaming-with_more naming name node is unused low)
IsNaming-added_more (Err e) naming entries name node is unused low more same =
    subst (λ es. IsNaming (record { entries = es; firsts = naming.firsts })) (sym same) is

-- what stands at a place of the table stands there among the names
pub stands-entries_of : (table : List (Vec ℕ Global × ℕ)) (place : ℕ) (name : Vec ℕ Global) (node : ℕ) →
    Some (name, node) ≡ slice_get table place → slice_get (entries_of table) place ≡ Some (name.items, node)
stands-entries_of table place name node seen =
    let names : Vec ℕ Global × ℕ → List ℕ × ℕ = λ entry. (entry.0.items, entry.1) in
    slice_get-map names table place ∙ ap (option_map names) (sym seen)

-- the names up to a place and the one there are one more
pub take-one_more : (entries : List (List ℕ × ℕ)) (place : ℕ) (entry : List ℕ × ℕ) → slice_get entries place ≡ Some entry →
    take (place + 1) entries ≡ take place entries ++ entry ∷ []
take-one_more entries place entry stands =
    let low : place < length entries = slice_get_within entries place entry stands in
    rw add-one (take-suc entries place entry low ∙ ap (λ e. take place entries ++ e ∷ []) (get_or_from_slice_get entries place entry entry stands))

-- where each name stands once, none is held by those before it
pub held-before : (entries : List (List ℕ × ℕ)) (place : ℕ) (name : List ℕ) (node : ℕ) → StandOnce entries →
    slice_get entries place ≡ Some (name, node) → held (take place entries) name ≡ None
held-before [] place name node once stands = absurd (cc)
held-before (entry ∷ entries) zero name node once stands = refl
held-before (entry ∷ entries) (suc place) name node once stands =
    by (bytes_eq name entry.0) (bytes_eq-Decides name entry.0)
    (held-before entries place name node (λ i j same one other at_i at_j.
    let both : suc i ≡ suc j = once (suc i) (suc j) same one other at_i at_j in omega arith) stands)
  where
    by : (test : Bool) → Decides test (name ≡ entry.0) → held (take place entries) name ≡ None →
        (if test then Some entry.1 else held (take place entries) name) ≡ None
    by false decides rest = rest
    by true decides rest =
        let same : entry.0 ≡ name = sym (decides.0 refl) in
        let first : 0 ≡ suc place = once 0 (suc place) name entry.1 node (ap (λ n. Some (n, entry.1)) same) stands in
        absurd (omega arith)

-- ---- guesses

-- a name that stands at a place is in use for its node
pub node_there : (naming : NamesData) (place : ℕ) (name : List ℕ) (node : ℕ) → IsNaming naming → slice_get naming.entries place ≡ Some (name, node) →
    HasNode naming name node
node_there naming place name node is stands =
    let low = slice_get_within naming.entries place (name, node) stands in
    let there : get_or naming.entries place (name, node) ≡ (name, node) = get_or_from_slice_get naming.entries place (name, node) (name, node) stands in
    record {
      found = subst (λ (entry : List ℕ × ℕ). node_of naming.entries entry.0 ≡ Some entry.1) there
          (All-get_or (λ (entry : List ℕ × ℕ). node_of naming.entries entry.0 ≡ Some entry.1) naming.entries place (name, node) low is.found);
      within = subst (λ (entry : List ℕ × ℕ). entry.1 < node_count naming) there
          (All-get_or (λ (entry : List ℕ × ℕ). entry.1 < node_count naming) naming.entries place (name, node) low is.within);
    }

-- ---- the same names

-- names of which at each place the same stands are the same
pub same_entries : (xs ys : List (List ℕ × ℕ)) → length xs ≡ length ys → ((place : ℕ) → place < length xs → slice_get xs place ≡ slice_get ys place) → xs ≡ ys
same_entries xs ys counted same = ext_get_or ([], 0) xs ys counted (λ place low. there place low)
  where
    there : (place : ℕ) → place < length xs → get_or xs place ([], 0) ≡ get_or ys place ([], 0)
    there place low =
        let both : Some (get_or xs place ([], 0)) ≡ Some (get_or ys place ([], 0)) =
        sym (slice_get-get_or xs place ([], 0) low) ∙ (same place low ∙ slice_get-get_or ys place ([], 0) (omega (arith, low, counted))) in
        cc
