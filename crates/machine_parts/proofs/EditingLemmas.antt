-- A machine whose graph is edited.
use Rattle.std.proofs.Common.{◌≡◌, ℕ, zero, suc, ◌+◌, ◌-◌, ◌≤◌, List, [], ◌∷◌, ◌++◌, length, replicate, map, Bool, Option, None, refl, sym, ap, subst, ◌∙◌, arith, append_assoc}
use Rattle.std.specs.Prelude.{Contains, slice_index_or}
use Rattle.std.proofs.lemmas.List.{map-append}
use Rattle.smallvec.specs.SmallVec.{SmallVec}
use Rattle.machine_parts.specs.declared.part.MachinePart.{MachinePart}
use Rattle.machine_parts.specs.Evaluating.{Rooms}
use Rattle.machine_parts.specs.Running.{IsMachine}
use Rattle.machine_parts.specs.Readers.{readers_of}
use Rattle.ternary.specs.declared.tern.Tern.{Tern}
use Rattle.ternary.specs.declared.tern.Tern.TheVariants.{Unk}

-- one more at the end of so many is one more
replicate-push : {X : Type 0} (count : ℕ) (x : X) → replicate count x ++ x ∷ [] ≡ replicate (suc count) x
replicate-push zero x = refl
replicate-push (suc count) x = ap (λ rest. x ∷ rest) (replicate-push count x)

-- one item more up to so many
pub replicated-more : {X : Type 0} (x : X) (old items new : List X) (node : ℕ) → length old ≤ node → items ≡ old ++ replicate (node - length old) x →
    new ≡ items ++ x ∷ [] → new ≡ old ++ replicate (node + 1 - length old) x
replicated-more {X} x old items new node low is pushed =
    let next : suc (node - length old) ≡ node + 1 - length old = omega arith in
    pushed ∙ ap (λ (list : List X). list ++ x ∷ []) is ∙ append_assoc old (replicate (node - length old) x) (x ∷ [])
    ∙ ap (λ (list : List X). old ++ list) (replicate-push (node - length old) x ∙ ap (λ (count : ℕ). replicate count x) next)

-- one more node is X
pub grown-more : (old items new : List Tern) (node : ℕ) → length old ≤ node → items ≡ old ++ replicate (node - length old) Unk →
    new ≡ items ++ Unk ∷ [] → new ≡ old ++ replicate (node + 1 - length old) Unk
grown-more old items new node low is pushed =
    let next : suc (node - length old) ≡ node + 1 - length old = omega arith in
    pushed ∙ ap (λ (list : List Tern). list ++ Unk ∷ []) is ∙ append_assoc old (replicate (node - length old) Unk) (Unk ∷ [])
    ∙ ap (λ (list : List Tern). old ++ list) (replicate-push (node - length old) Unk ∙ ap (λ (count : ℕ). replicate count Unk) next)

-- an empty list more at the end
pub readers_more : (readers : List (SmallVec ℕ)) (parts : SmallVec ℕ) → parts.items ≡ [] → (node : ℕ) →
    readers_of (readers ++ parts ∷ []) node ≡ readers_of readers node
readers_more readers parts empty node =
    let items : SmallVec ℕ → List ℕ = λ list. list.items in
    ap (λ lists. slice_index_or lists node []) (map-append items readers (parts ∷ [])) ∙ at_end (map items readers) parts.items empty node
  where
    at_end : (lists : List (List ℕ)) (last : List ℕ) → last ≡ [] → (n : ℕ) → slice_index_or (lists ++ last ∷ []) n [] ≡ slice_index_or lists n []
    at_end [] last empty zero = empty
    at_end [] last empty (suc n) = refl
    at_end (list ∷ lists) last empty zero = refl
    at_end (list ∷ lists) last empty (suc n) = at_end lists last empty n

-- nothing more at the end is the same to look at
pub none_more : {X : Type 0} (xs : List (Option X)) (count n : ℕ) → slice_index_or (xs ++ replicate count None) n None ≡ slice_index_or xs n None
none_more [] zero n = refl
none_more [] (suc count) zero = refl
none_more [] (suc count) (suc n) = none_more [] count n
none_more (x ∷ xs) count zero = refl
none_more (x ∷ xs) count (suc n) = none_more xs count n

-- a machine with more nodes can run
pub IsMachine-grown : (parts : List MachinePart) (marks waiting : List Bool) (count more : ℕ) (lists lists' : List (SmallVec ℕ)) (owners owners' numbers : List (Option ℕ))
    (held most : ℕ) (room : Rooms) → IsMachine parts marks waiting count lists owners numbers held most room → count ≤ more →
    length lists' ≡ more → ((node : ℕ) → readers_of lists' node ≡ readers_of lists node) → length owners' ≡ more →
    ((node : ℕ) → slice_index_or owners' node None ≡ slice_index_or owners node None) →
    IsMachine parts marks waiting more lists' owners' numbers held most room
IsMachine-grown parts marks waiting count more lists lists' owners owners' numbers held most room machine larger lists_count lists_same owners_count owners_same = record {
  runs = record {
    counted = machine.runs.counted;
    seated = λ l d inside.
        let seat = machine.runs.seated l d inside in
        record {
          below = λ i e within. omega (arith, seat.below i e within, larger);
          members = seat.members;
          apart = seat.apart;
          coded = seat.coded;
        };
    apart = machine.runs.apart;
    waits = machine.runs.waits;
    stale = machine.runs.stale;
    readers_counted = lists_count;
    readers = λ node k reads. subst (λ list. Contains list k) (sym (lists_same node)) (machine.runs.readers node k reads);
    reads = λ node k there. machine.runs.reads node k (subst (λ list. Contains list k) (lists_same node) there);
    changes_room = machine.runs.changes_room;
    parts_room = machine.runs.parts_room;
  };
  own = record {
    counted = owners_count;
    owner = λ node k has. owners_same node ∙ machine.own.owner node k has;
    member = λ node k is. machine.own.member node k (sym (owners_same node) ∙ is);
  };
  numbered = machine.numbered;
  number = machine.number;
  most_members = machine.most_members;
  most_room = machine.most_room;
}
