-- The evaluation: what is noted of one node and of one more, and what the entries of all three passes mean.
use Rattle.std.proofs.Common.{◌≡◌, ℕ, ◌+◌, ◌<◌, Bool, true, nat_lt, inl, inr, ◌⊎◌, List, [], ◌∷◌, ◌++◌, length, take, get_or, refl, sym, ap, ◌∙◌, subst, arith, append_assoc}
use Rattle.std.specs.Prelude.{Contains, slice_index, ◌↔◌}
use Rattle.std.proofs.lemmas.Bool.{ltb-true, lt-ltb}
use Rattle.std.proofs.lemmas.List.{append-nil, take_more}
use Rattle.std.proofs.lemmas.List.Elements.{Contains-push, Contains-push_cases, Contains-append_left, Contains-append_cases, Contains-append_right}
use Rattle.ternary.specs.declared.tern.Tern.{Tern}
use Rattle.ternary.specs.declared.tern.Tern.TheVariants.{Zero, One, Unk}
use Rattle.ternary.specs.Tern.{may_one, may_zero}
use Rattle.switch_paths.specs.Switching.{state_at}
use Rattle.switch_paths.specs.Graphs.{GraphData, IsWired, IsStorage}
use Rattle.switch_paths.specs.Step.{IsResponse}
use Rattle.switch_paths.proofs.ReachedNodes.{reached}
use Rattle.part_words.specs.declared.change.Change.{Change}
use Rattle.group_meaning.proofs.LinkLemmas.{AreLinked-to}
use Rattle.vicinity.specs.declared.pass.Pass.TheVariants as Pass
use Rattle.vicinity.specs.NodeSets.{IsIn}
use Rattle.vicinity.specs.Entries.{AreBest, AreEntries}
use Rattle.vicinity.specs.Vicinities.{live_graph}
use Rattle.vicinity.proofs.LiveGraphs.{storage_whole}
use Rattle.vicinity.proofs.CarriedPaths.{IsClosedSet}
use Rattle.vicinity.proofs.FloodLemmas.{next_awake}
use Rattle.vicinity.proofs.EntryLemmas.{one_entries, zero_entries}
use Rattle.vicinity.specs.Touching.{IsAwake}
use Rattle.vicinity.specs.Evaluating.{HasRails, NotesWhere}
use Rattle.part_words.specs.Noting.{after}

module _ (Gives : ℕ → Tern → Type 0) (joining : Bool) (state : List Tern) where
  -- nothing is asked for
  pub Notes-none : (Asked : ℕ → Type 0) (changes : List Change) → ((node : ℕ) → ¬ Asked node) → NotesWhere Asked Gives joining state changes changes
  Notes-none Asked changes nobody = record {
    more = [];
    list = sym (append-nil changes);
    only = λ change there. absurd (omega (arith, there.1));
    all = λ node asked. absurd (nobody node asked);
  }

  -- one node more is asked for
  pub Notes-more : (list : List ℕ) (i node : ℕ) (value : Tern) (old mid new : List Change) → i < length list → node ≡ get_or list i 0 → Gives node value →
      NotesWhere (Contains (take i list)) Gives joining state old mid →
      NotesWhere (λ one. one ≡ node) (λ one given. given ≡ value) joining state mid new →
      NotesWhere (Contains (take (i + 1) list)) Gives joining state old new
  Notes-more list i node value old mid new within is gives so_far here =
      let longer : take (i + 1) list ≡ take i list ++ node ∷ [] = take_more list i 0 within ∙ ap (λ n. take i list ++ n ∷ []) (sym is) in
      rw longer (record {
        more = so_far.more ++ here.more;
        list = here.list ∙ (ap (λ xs. xs ++ here.more) so_far.list ∙ append_assoc old so_far.more here.more);
        only = λ change there.
            elim (Contains-append_cases so_far.more here.more change there) [
              | inl before ↦
                  let was = so_far.only change before in
                  (Contains-append_left (take i list) (node ∷ []) change.node was.0, was.1, was.2)
              | inr now ↦
                  let was = here.only change now in (
                    subst (Contains (take i list ++ node ∷ [])) (sym was.0) (Contains-push (take i list) node),
                    (
                      value,
                      subst (λ n. Gives n value) (sym was.0) gives,
                      subst (λ v. change.value ≡ after joining (state_at state change.node) v) was.1.1 was.1.2,
                    ),
                    was.2,
                  )
            ];
        all = λ n asked.
            elim (Contains-push_cases (take i list) node n asked) [
              | inl before ↦
                  let was = so_far.all n before in
                  (was.0, was.1, elim was.2 [ inl stays ↦ inl stays | inr there ↦ inr (Contains-append_left so_far.more here.more _ there) ])
              | inr same ↦
                  let was = here.all n (sym same) in (
                    was.0,
                    subst (λ v. Gives n v) (sym was.1) (subst (λ m. Gives m value) same gives),
                    elim was.2 [ inl stays ↦ inl stays | inr there ↦ inr (Contains-append_right so_far.more here.more _ there) ],
                  )
            ];
      })

-- the same, told otherwise
pub Notes-as : (Asked Wanted : ℕ → Type 0) (Gives Means : ℕ → Tern → Type 0) (joining : Bool) (state : List Tern) (old new : List Change) →
    ((node : ℕ) → Wanted node → Asked node) → ((node : ℕ) → Asked node → Wanted node) →
    ((node : ℕ) (value : Tern) → Asked node → Gives node value → Means node value) →
    NotesWhere Asked Gives joining state old new → NotesWhere Wanted Means joining state old new
Notes-as Asked Wanted Gives Means joining state old new back forth means notes = record {
  more = notes.more;
  list = notes.list;
  only = λ change there.
      let was = notes.only change there in
      (forth change.node was.0, (was.1.0, means change.node was.1.0 was.0 was.1.1, was.1.2), was.2);
  all = λ node wanted.
      let asked = back node wanted in
      let was = notes.all node asked in
      (was.0, means node was.0 asked was.1, was.2);
}

-- what a test of an entry says
rail_test : (rail : Bool) (entry : ℕ) → rail ≡ nat_lt 0 entry → (rail ≡ true) ↔ (0 < entry)
rail_test rail entry is = ((λ set. ltb-true 0 entry (sym is ∙ set)), (λ positive. is ∙ lt-ltb 0 entry positive))

pub HasRails-tests : (one zero : List ℕ) (node : ℕ) (value : Tern) → may_one value ≡ nat_lt 0 (slice_index one node) →
    may_zero value ≡ nat_lt 0 (slice_index zero node) → HasRails one zero node value
HasRails-tests one zero node value ones zeros =
    record { ones = rail_test (may_one value) (slice_index one node) ones; zeros = rail_test (may_zero value) (slice_index zero node) zeros }

-- what is awake is a closed set
pub awake_closed : (g : GraphData) (state : List Tern) (touched : List ℕ) (inside : List Bool) →
    ((node : ℕ) → IsIn inside node → IsAwake g state touched node) → ((node : ℕ) → IsAwake g state touched node → IsIn inside node) →
    IsClosedSet g state (IsIn inside)
awake_closed g state touched inside awake all =
    let storage : (node : ℕ) → IsIn inside node → IsStorage g node =
    λ node is. let (one, touch, near) = awake node is in storage_whole g state node (AreLinked-to (live_graph g state) one node near) in
    record {
      storage = storage;
      closed = λ place m n switch stands joins live is storage_too.
          all n (next_awake g state touched m n (awake m is)
          (place, record { switch = switch; at_place = stands; joins = joins; live = live }) storage_too);
    }

-- a state has one rail or the other
some_rail : (state : Tern) → (may_one state ≡ true) ⊎ (may_zero state ≡ true)
some_rail Zero = inr refl
some_rail One = inl refl
some_rail Unk = inl refl

-- the entries of a rail's pass over a closed set, whose floor tells what is beaten
module _ (g : GraphData) (wired : IsWired g) (state : List Tern) (inside : List Bool) (set : IsClosedSet g state (IsIn inside)) (best one zero : List ℕ)
    (are : AreBest g state inside best) (ones : AreEntries Pass.One g state inside best one) (zeros : AreEntries Pass.Zero g state inside best zero) where
  -- each node has an entry in one of the two
  pub some_entry : (node : ℕ) → IsIn inside node → 0 < slice_index one node + slice_index zero node
  some_entry node is =
      let way = reached g wired state node (set.storage node is).inside in
      elim (some_rail (state_at state way.0)) [
        | inl rail ↦ omega (arith, (one_entries g wired state inside set best one are ones node is).1 (way.0, way.1, rail))
        | inr rail ↦ omega (arith, (zero_entries g wired state inside set best zero are zeros node is).1 (way.0, way.1, rail))
      ]

  -- and a value with their rails is its steady state
  pub rails_respond : (node : ℕ) (value : Tern) → IsIn inside node → HasRails one zero node value → IsResponse g state node value
  rails_respond node value is rails =
      let responds_one = one_entries g wired state inside set best one are ones node is in
      let responds_zero = zero_entries g wired state inside set best zero are zeros node is in
      record {
        one = ((λ given. responds_one.0 (rails.ones.0 given)), (λ way. rails.ones.1 (responds_one.1 way)));
        zero = ((λ given. responds_zero.0 (rails.zeros.0 given)), (λ way. rails.zeros.1 (responds_zero.1 way)));
      }
