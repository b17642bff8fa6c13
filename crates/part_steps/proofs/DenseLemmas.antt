-- Seats tell the codes and the maps of parts: they still do where codes and maps come behind the others, where a seat comes behind the others,
-- and where seats are put in slots. Texts of one number share a code.
use Rattle.std.proofs.Common.{◌≡◌, ◌≢◌, ℕ, zero, suc, ◌+◌, ◌<◌, ◌≤◌, inl, inr, List, [], ◌∷◌, ◌++◌, length, map, take, drop, Option, Some, None, Vec, Global, All, refl, sym, ap, subst, ◌∙◌, append_assoc, append-nil, arith}
use Rattle.std.specs.Prelude.{slice_get, slice_index_or, slice_set, replicate}
use Rattle.std.proofs.lemmas.Bool.{cases_lt, cases_eq}
use Rattle.std.proofs.lemmas.List.{length-append, length-drop, length-set, length_push, take-append-le, drop-append-le, take_at, take_all, drop_at}
use Rattle.std.proofs.lemmas.Option.{same_Some, none-some, slice_get_within, slice_get-get_or, get_or_from_slice_get}
use Rattle.std.specs.declared.rc.Rc.{Rc}
use Rattle.straight_code.specs.Code.{CodeData}
use Rattle.list_facts.proofs.PlaceLemmas.{slice_get-grown, slice_get-last, pushed_at}
use Rattle.part_words.specs.Noting.{map_at}
use Rattle.part_words.specs.declared.last_runs.LastRuns.{LastRuns}
use Rattle.part_words.specs.declared.last_runs.KnownRuns.{KnownRuns}
use Rattle.machine_parts.specs.declared.part.MachinePart.{MachinePart}
use Rattle.part_steps.specs.declared.dense.Seat.{Seat}
use Rattle.part_steps.specs.declared.dense.DenseParts.{DenseParts}
use Rattle.machine_parts.specs.Marking.{AreOnce}
use Rattle.machine_parts.specs.Putting.{Puts}
use Rattle.part_steps.specs.Dense.{HasInputs, HaveCodes, IsCodeAt, IsMapAt, ArePlaces, IsPartNumbered, IsPlace, IsSeatOf, AreSeatsOf, AreDense, BeginsWith, Grows}
use Rattle.part_steps.specs.Known.{Knows, KeepsKnown}
use Rattle.machine_parts.proofs.NumberLists.{one_or_none}

-- a seat tells the code and the map of the part with its number
pub place_of_part : (parts : List MachinePart) (dense : DenseParts) (k : ℕ) (part : MachinePart) (seat : Seat) → AreDense parts dense →
    slice_get parts k ≡ Some part → slice_get dense.seats.items k ≡ Some (Some seat) → IsPlace part dense.codes.items dense.nodes.items seat
place_of_part parts dense k part seat of part_is seat_is = (of.seats.each k part (Some seat) part_is seat_is).some seat refl

-- a part without a seat has no code
pub no_place_of_part : (parts : List MachinePart) (dense : DenseParts) (k : ℕ) (part : MachinePart) → AreDense parts dense →
    slice_get parts k ≡ Some part → slice_get dense.seats.items k ≡ Some None → part.code ≡ None
no_place_of_part parts dense k part of part_is seat_is = (of.seats.each k part None part_is seat_is).none refl

module _ {X : Type 0} where
  pub BeginsWith-then : (xs ys zs : List X) → BeginsWith xs ys → BeginsWith ys zs → BeginsWith xs zs
  BeginsWith-then xs ys zs first second = record {
    more = first.more ++ second.more;
    is = second.is ∙ (ap (λ front. front ++ second.more) first.is ∙ append_assoc xs first.more second.more);
  }

  -- as much as was there is what was there
  pub front_of : (front list : List X) (count : ℕ) → BeginsWith front list → count ≡ length front → take count list ≡ front
  front_of front list count begins counted = ap (take count) begins.is ∙ take_at front begins.more count (sym counted)

  -- what is in front stands where it stood
  pub stands_still : (front list : List X) (k : ℕ) (x : X) → BeginsWith front list → slice_get front k ≡ Some x → slice_get list k ≡ Some x
  stands_still front list k x begins at = ap (λ xs. slice_get xs k) begins.is ∙ slice_get-grown front begins.more k x at

  set_here : (xs : List X) (k : ℕ) (x y : X) → slice_get (slice_set xs k x) k ≡ Some y → x ≡ y
  set_here [] k x y at = absurd (none-some y at)
  set_here (z ∷ xs) zero x y at = same_Some x y at
  set_here (z ∷ xs) (suc k) x y at = set_here xs k x y at

  set_other : (xs : List X) (k l : ℕ) (x : X) → l ≢ k → slice_get (slice_set xs k x) l ≡ slice_get xs l
  set_other [] k l x differs = refl
  set_other (z ∷ xs) zero zero x differs = absurd (differs refl)
  set_other (z ∷ xs) zero (suc l) x differs = refl
  set_other (z ∷ xs) (suc k) zero x differs = refl
  set_other (z ∷ xs) (suc k) (suc l) x differs = set_other xs k l x (λ same. differs (omega (arith, same)))

more_items : {X : Type 0} (front list : List X) → BeginsWith front list → length front ≤ length list
more_items front list begins = omega (arith, ap length begins.is, length-append front begins.more)

-- the last code stands behind the others
pub code_last : (codes new : List (Rc CodeData Global)) (shared : Rc CodeData Global) (place : ℕ) (code : CodeData) → new ≡ codes ++ shared ∷ [] →
    place ≡ length codes → shared.value ≡ code → IsCodeAt new place code
code_last codes new shared place code pushed place_is same = record {
  code = shared;
  there = subst (λ n. slice_get new n ≡ Some shared) (sym place_is) (subst (λ list. slice_get list (length codes) ≡ Some shared) (sym pushed) (slice_get-last codes shared));
  same = same;
}

-- the last map begins behind the other nodes
pub map_last : (nodes new these : List ℕ) (at : ℕ) → new ≡ nodes ++ these → at ≡ length nodes → IsMapAt new at these
map_last nodes new these at added at_is = record {
  inside = omega (arith, at_is, ap length added, length-append nodes these);
  map =
      ap (λ list. take (length these) (drop at list)) added
      ∙ (ap (take (length these)) (drop_at nodes these at (sym at_is)) ∙ take_all (length these) these (omega arith));
}

-- a map stands where it stood
map_stays : (front nodes : List ℕ) (at count : ℕ) → BeginsWith front nodes → at + count ≤ length front → map_at nodes count at ≡ map_at front count at
map_stays front nodes at count begins inside =
    ap (λ list. take count (drop at list)) begins.is
    ∙ (ap (take count) (drop-append-le at front begins.more (omega (arith, inside)))
    ∙ take-append-le count (drop at front) begins.more (omega (arith, inside, length-drop at front)))

-- what is known of runs is as it was
known_same : (old new : KnownRuns) → new ≡ old → KeepsKnown old.codes.items new.codes.items
known_same old new same codes knows = subst (λ (one : KnownRuns). Knows codes one.codes.items) (sym same) knows

-- what all of a list are, each of them is
each_is : {X : Type 0} (IsSo : X → Type 0) (list : List X) (k : ℕ) (x : X) → All IsSo list → slice_get list k ≡ Some x → IsSo x
each_is IsSo list k x all at = subst IsSo (get_or_from_slice_get list k x x at) (all k x (slice_get_within list k x at))

-- nothing is known
pub known_none : (codes : List (Rc CodeData Global)) → Knows codes []
known_none codes k runs place is ran = absurd (none-some runs is)

-- nothing came
pub grows_same : (old new : DenseParts) → new.codes.items ≡ old.codes.items → new.nodes.items ≡ old.nodes.items → new.seats ≡ old.seats →
    new.known ≡ old.known → Grows old new
grows_same old new codes nodes seats known = record {
  codes = record { more = []; is = codes ∙ sym (append-nil old.codes.items) };
  nodes = record { more = []; is = nodes ∙ sym (append-nil old.nodes.items) };
  seats = seats;
  known = known_same old.known new.known known;
}

-- one code came
pub grows_code : (old new : DenseParts) (code : Rc CodeData Global) → new.codes.items ≡ old.codes.items ++ code ∷ [] →
    new.nodes.items ≡ old.nodes.items → new.seats ≡ old.seats → new.known ≡ old.known → Grows old new
grows_code old new code codes nodes seats known = record {
  codes = record { more = code ∷ []; is = codes };
  nodes = record { more = []; is = nodes ∙ sym (append-nil old.nodes.items) };
  seats = seats;
  known = known_same old.known new.known known;
}

-- room for runs came, and no code ran in it yet
pub grows_known : (old new : DenseParts) → new.codes.items ≡ old.codes.items → new.nodes.items ≡ old.nodes.items →
    new.seats ≡ old.seats → All (λ runs. runs.place ≡ None) new.known.codes.items → Grows old new
grows_known old new codes nodes seats fresh = record {
  codes = record { more = []; is = codes ∙ sym (append-nil old.codes.items) };
  nodes = record { more = []; is = nodes ∙ sym (append-nil old.nodes.items) };
  seats = seats;
  known = λ all knows k runs place is ran.
      absurd (none-some place (sym (each_is (λ (one : LastRuns). one.place ≡ None) new.known.codes.items k runs fresh is) ∙ ran));
}

-- nodes came
pub grows_nodes : (old new : DenseParts) (these : List ℕ) → new.codes ≡ old.codes → new.nodes.items ≡ old.nodes.items ++ these →
    new.seats ≡ old.seats → new.known ≡ old.known → Grows old new
grows_nodes old new these codes nodes seats known = record {
  codes = record { more = []; is = ap (λ (list : Vec (Rc CodeData Global) Global). list.items) codes ∙ sym (append-nil old.codes.items) };
  nodes = record { more = these; is = nodes };
  seats = seats;
  known = known_same old.known new.known known;
}

pub grows_then : (one two three : DenseParts) → Grows one two → Grows two three → Grows one three
grows_then one two three first second = record {
  codes = BeginsWith-then one.codes.items two.codes.items three.codes.items first.codes second.codes;
  nodes = BeginsWith-then one.nodes.items two.nodes.items three.nodes.items first.nodes second.nodes;
  seats = second.seats ∙ first.seats;
  known = λ codes knows. second.known codes (first.known codes knows);
}

-- what is known of runs stays true where codes came behind the others
Knows-more : (front codes : List (Rc CodeData Global)) (known : List LastRuns) → BeginsWith front codes → Knows front known → Knows codes known
Knows-more front codes known begins knows k runs place is ran =
    let at = knows k runs place is ran in
    record { code = at.code; there = stands_still front codes place at.code begins at.there; ran = at.ran }

pub Knows-grown : (old new : DenseParts) → Grows old new → Knows old.codes.items old.known.codes.items → Knows new.codes.items new.known.codes.items
Knows-grown old new grows knows = grows.known new.codes.items (Knows-more old.codes.items new.codes.items old.known.codes.items grows.codes knows)

-- codes stand where they stood
pub IsCodeAt-more : (front codes : List (Rc CodeData Global)) (place : ℕ) (code : CodeData) → BeginsWith front codes → IsCodeAt front place code →
    IsCodeAt codes place code
IsCodeAt-more front codes place code begins is = record {
  code = is.code;
  there = stands_still front codes place is.code begins is.there;
  same = is.same;
}

pub ArePlaces-more : (list : List CodeData) (front codes : List (Rc CodeData Global)) (places : List (Option ℕ)) → BeginsWith front codes →
    ArePlaces list front places → ArePlaces list codes places
ArePlaces-more list front codes places begins are n place at =
    let (code, listed, is) = are n place at in
    (code, listed, IsCodeAt-more front codes place code begins is)

-- the code of one number more has a place
pub ArePlaces-set : (list : List CodeData) (codes : List (Rc CodeData Global)) (places : List (Option ℕ)) (n place : ℕ) (code : CodeData) →
    slice_get list n ≡ Some code → IsCodeAt codes place code → ArePlaces list codes places → ArePlaces list codes (slice_set places n (Some place))
ArePlaces-set list codes places n place code listed is are m other at =
    elim (cases_eq m n) [
      | inl same ↦
          let here : slice_get (slice_set places n (Some place)) n ≡ Some (Some other) =
          subst (λ l. slice_get (slice_set places n (Some place)) l ≡ Some (Some other)) same at in
          let both : Some place ≡ Some other = set_here places n (Some place) (Some other) here in
          let equal : place ≡ other = same_Some place other both in
          (code, subst (λ l. slice_get list l ≡ Some code) (sym same) listed, subst (λ l. IsCodeAt codes l code) equal is)
      | inr differs ↦ are m other (sym (set_other places n m (Some place) differs) ∙ at)
    ]

-- the same places, where codes came behind the others
pub places_more : (list : List CodeData) (old new : DenseParts) (places : List (Option ℕ)) → Grows old new → ArePlaces list old.codes.items places →
    ArePlaces list new.codes.items places
places_more list old new places grows are = ArePlaces-more list old.codes.items new.codes.items places grows.codes are

-- where the code of a number stands that has a place
pub place_known : (list : List CodeData) (codes : List (Rc CodeData Global)) (places : List (Option ℕ)) (n place : ℕ) (code : CodeData) →
    ArePlaces list codes places → slice_get list n ≡ Some code → slice_get places n ≡ Some (Some place) → IsCodeAt codes place code
place_known list codes places n place code are listed at =
    let (one, there, is) = are n place at in
    subst (IsCodeAt codes place) (same_Some one code (sym there ∙ listed)) is

-- the code of one number more came, and has its place
pub place_added : (list : List CodeData) (old new : DenseParts) (places : List (Option ℕ)) (n place : ℕ) (code : CodeData) → Grows old new →
    ArePlaces list old.codes.items places → slice_get list n ≡ Some code → IsCodeAt new.codes.items place code →
    ArePlaces list new.codes.items (slice_set places n (Some place))
place_added list old new places n place code grows are listed is =
    ArePlaces-set list new.codes.items places n place code listed is (places_more list old new places grows are)

-- where nothing stands nothing is found
none_there : (count k x : ℕ) → ¬ (slice_get (replicate count None) k ≡ Some (Some x))
none_there zero k x at = none-some (Some x) at
none_there (suc count) zero x at = none-some x (same_Some None (Some x) at)
none_there (suc count) (suc k) x at = none_there count k x at

-- no number has a place yet
pub places_none : (list : List CodeData) (codes : List (Rc CodeData Global)) (places : List (Option ℕ)) (count : ℕ) → places ≡ replicate count None →
    ArePlaces list codes places
places_none list codes places count none n place at =
    absurd (none_there count n place (subst (λ xs. slice_get xs n ≡ Some (Some place)) none at))

-- the seat at which the part's code and its map stand
pub IsPlace-made : (part : MachinePart) (own : Rc CodeData Global) (codes : List (Rc CodeData Global)) (nodes : List ℕ)
    (seat : Seat) → HasInputs part →
    part.code ≡ Some own → IsCodeAt codes seat.code own.value → IsMapAt nodes seat.at part.map.items → IsPlace part codes nodes seat
IsPlace-made part own codes nodes seat fits has is stands =
    let inputs : length part.map.items ≡ is.code.value.inputs = fits own has ∙ ap (λ (code : CodeData). code.inputs) (sym is.same) in
    record {
      own = own;
      has = has;
      code = is.code;
      there = is.there;
      same = is.same;
      inside = subst (λ n. seat.at + n ≤ length nodes) inputs stands.inside;
      map = subst (λ n. map_at nodes n seat.at ≡ part.map.items) inputs stands.map;
    }

pub IsSeatOf-some : (part : MachinePart) (codes : List (Rc CodeData Global)) (nodes : List ℕ) (seat : Seat) → IsPlace part codes nodes seat →
    IsSeatOf part codes nodes (Some seat)
IsSeatOf-some part codes nodes seat is = record {
  none = λ none. absurd (none-some seat (sym none));
  some = λ one same. subst (IsPlace part codes nodes) (same_Some seat one same) is;
}

pub IsSeatOf-none : (part : MachinePart) (codes : List (Rc CodeData Global)) (nodes : List ℕ) → part.code ≡ None → IsSeatOf part codes nodes None
IsSeatOf-none part codes nodes none = record {
  none = λ same. none;
  some = λ one same. absurd (none-some one same);
}

-- the code stands at its place, and then the map came
pub seat_made : (part : MachinePart) (own : Rc CodeData Global) (old new : DenseParts) (place at : ℕ) → HasInputs part → part.code ≡ Some own →
    IsCodeAt old.codes.items place own.value → Grows old new → IsMapAt new.nodes.items at part.map.items →
    IsSeatOf part new.codes.items new.nodes.items (Some (record { code = place; at = at }))
seat_made part own old new place at fits has is grows stands =
    IsSeatOf-some part new.codes.items new.nodes.items (record { code = place; at = at })
    (IsPlace-made part own new.codes.items new.nodes.items (record { code = place; at = at }) fits has
    (IsCodeAt-more old.codes.items new.codes.items place own.value grows.codes is) stands)

-- a seat says the same where more codes and maps came
IsSeatOf-more : (part : MachinePart) (front codes : List (Rc CodeData Global)) (first nodes : List ℕ) (seat : Option Seat) → BeginsWith front codes →
    BeginsWith first nodes → IsSeatOf part front first seat → IsSeatOf part codes nodes seat
IsSeatOf-more part front codes first nodes seat codes_more nodes_more is = record {
  none = is.none;
  some = λ one same.
      let place = is.some one same in
      record {
        own = place.own;
        has = place.has;
        code = place.code;
        there = stands_still front codes one.code place.code codes_more place.there;
        same = place.same;
        inside = omega (arith, place.inside, more_items first nodes nodes_more);
        map = map_stays first nodes one.at place.code.value.inputs nodes_more place.inside ∙ place.map;
      };
}

pub AreSeatsOf-more : (parts : List MachinePart) (old new : DenseParts) (seats : List (Option Seat)) → Grows old new →
    AreSeatsOf parts old.codes.items old.nodes.items seats → AreSeatsOf parts new.codes.items new.nodes.items seats
AreSeatsOf-more parts old new seats grows of = record {
  counted = of.counted;
  each = λ k part seat part_is seat_is.
      IsSeatOf-more part old.codes.items new.codes.items old.nodes.items new.nodes.items seat grows.codes grows.nodes (of.each k part seat part_is seat_is);
}

-- all seats say the same after more codes and maps came
pub dense_more : (parts : List MachinePart) (old new : DenseParts) → Grows old new → AreDense parts old → AreDense parts new
dense_more parts old new grows of = record {
  seats = subst (λ (list : Vec (Option Seat) Global). AreSeatsOf parts new.codes.items new.nodes.items list.items) (sym grows.seats)
      (AreSeatsOf-more parts old new old.seats.items grows of.seats);
  known = Knows-grown old new grows of.known;
}

-- and after those that came behind the others have gone again
pub dense_again : (old mid new : DenseParts) (codes_count nodes_count : ℕ) → Grows old mid → codes_count ≡ length old.codes.items →
    nodes_count ≡ length old.nodes.items → new.codes.items ≡ take codes_count mid.codes.items → new.nodes.items ≡ take nodes_count mid.nodes.items →
    new.seats ≡ mid.seats → new.known ≡ mid.known → (parts : List MachinePart) → AreDense parts old → AreDense parts new
dense_again old mid new codes_count nodes_count grows codes_counted nodes_counted codes nodes seats known parts of =
    let codes_are : new.codes.items ≡ old.codes.items = codes ∙ front_of old.codes.items mid.codes.items codes_count grows.codes codes_counted in
    record {
      seats = subst (λ list. AreSeatsOf parts list new.nodes.items new.seats.items) (sym codes_are)
          (subst (λ list. AreSeatsOf parts old.codes.items list new.seats.items)
          (sym (nodes ∙ front_of old.nodes.items mid.nodes.items nodes_count grows.nodes nodes_counted))
          (subst (λ (list : Vec (Option Seat) Global). AreSeatsOf parts old.codes.items old.nodes.items list.items) (sym (seats ∙ grows.seats)) of.seats));
      known = subst (λ list. Knows list new.known.codes.items) (sym codes_are)
          (subst (λ (one : KnownRuns). Knows old.codes.items one.codes.items) (sym known) (grows.known old.codes.items of.known));
    }

-- no part has a seat yet
pub no_seats : (codes : List (Rc CodeData Global)) (nodes : List ℕ) → AreSeatsOf [] codes nodes []
no_seats codes nodes = record { counted = refl; each = λ k part seat part_is seat_is. absurd (none-some part part_is) }

-- one seat more
pub AreSeatsOf-push : (parts : List MachinePart) (part : MachinePart) (codes : List (Rc CodeData Global)) (nodes : List ℕ)
    (seats : List (Option Seat))
    (seat : Option Seat) → AreSeatsOf parts codes nodes seats → IsSeatOf part codes nodes seat →
    AreSeatsOf (parts ++ part ∷ []) codes nodes (seats ++ seat ∷ [])
AreSeatsOf-push parts part codes nodes seats seat of is = record {
  counted = omega (arith, length_push seats seat, length_push parts part, of.counted);
  each = λ k one here one_is here_is.
      elim (pushed_at parts part one k one_is) [
        | inl part_before ↦
            elim (pushed_at seats seat here k here_is) [
              | inl before ↦ of.each k one here part_before before
              | inr (place, same) ↦ absurd (omega (arith, place, of.counted, slice_get_within parts k one part_before))
            ]
        | inr (part_place, part_same) ↦
            elim (pushed_at seats seat here k here_is) [
              | inl before ↦ absurd (omega (arith, part_place, of.counted, slice_get_within seats k here before))
              | inr (place, same) ↦
                  subst (λ one_part. IsSeatOf one_part codes nodes here) part_same (subst (λ one_seat. IsSeatOf part codes nodes one_seat) same is)
            ]
      ];
}

-- another part has the slot
pub AreSeatsOf-set : (parts : List MachinePart) (k : ℕ) (part : MachinePart) (codes : List (Rc CodeData Global)) (nodes : List ℕ) (seats : List (Option Seat))
    (seat : Option Seat) → AreSeatsOf parts codes nodes seats → IsSeatOf part codes nodes seat →
    AreSeatsOf (slice_set parts k part) codes nodes (slice_set seats k seat)
AreSeatsOf-set parts k part codes nodes seats seat of is = record {
  counted = length-set seats k seat ∙ (of.counted ∙ sym (length-set parts k part));
  each = λ l one here one_is here_is.
      elim (cases_eq l k) [
        | inl same ↦
            let part_same = set_here parts k part one (subst (λ n. slice_get (slice_set parts k part) n ≡ Some one) same one_is) in
            let seat_same = set_here seats k seat here (subst (λ n. slice_get (slice_set seats k seat) n ≡ Some here) same here_is) in
            subst (λ one_part. IsSeatOf one_part codes nodes here) part_same (subst (λ one_seat. IsSeatOf part codes nodes one_seat) seat_same is)
        | inr differs ↦ of.each l one here (sym (set_other parts k l part differs) ∙ one_is) (sym (set_other seats k l seat differs) ∙ here_is)
      ];
}

-- a slot stands at one place
one_place : (slots : List ℕ) (i j k : ℕ) → AreOnce slots → slice_get slots i ≡ Some k → slice_get slots j ≡ Some k → ¬ (i < j)
one_place slots i j k once first second before =
    once i j before (slice_get_within slots j k second) (get_or_from_slice_get slots i k 0 first ∙ sym (get_or_from_slice_get slots j k 0 second))

same_place : (slots : List ℕ) (i j k : ℕ) → AreOnce slots → slice_get slots i ≡ Some k → slice_get slots j ≡ Some k → i ≡ j
same_place slots i j k once first second =
    elim (cases_lt i j) [
      | inl less ↦ absurd (one_place slots i j k once first second less)
      | inr past ↦
          elim (cases_lt j i) [
            | inl less ↦ absurd (one_place slots j i k once second first less)
            | inr other ↦ omega (arith, past, other)
          ]
    ]

-- parts and their seats were put in the same slots
pub AreSeatsOf-put : (slots : List ℕ) (codes : List (Rc CodeData Global)) (nodes : List ℕ) (fresh old new : List MachinePart)
    (seats before after : List (Option Seat)) → AreOnce slots → AreSeatsOf fresh codes nodes seats → AreSeatsOf old codes nodes before →
    Puts slots fresh old new → Puts slots seats before after → AreSeatsOf new codes nodes after
AreSeatsOf-put slots codes nodes fresh old new seats before after once fresh_of old_of puts seat_puts = record {
  counted = seat_puts.count ∙ (old_of.counted ∙ sym puts.count);
  each = λ k part seat part_is seat_is.
      elim (one_or_none slots k) [
        | inl there ↦
            let (i, x, slot, from, put) = puts.put k there in
            let (j, s, seat_slot, seat_from, seat_put) = seat_puts.put k there in
            let same : j ≡ i = same_place slots j i k once seat_slot slot in
            let part_same : x ≡ part = same_Some x part (sym put ∙ part_is) in
            let seat_same : s ≡ seat = same_Some s seat (sym seat_put ∙ seat_is) in
            fresh_of.each i part seat (from ∙ ap Some part_same) (subst (λ n. slice_get seats n ≡ Some s) same seat_from ∙ ap Some seat_same)
        | inr none ↦ old_of.each k part seat (sym (puts.stays k none) ∙ part_is) (sym (seat_puts.stays k none) ∙ seat_is)
      ];
}

-- seats were put in slots: whatever parts were put there, they are those of the parts
pub seats_put : (slots : List ℕ) (before after : DenseParts) (seats : List (Option Seat)) → after.codes ≡ before.codes → after.nodes ≡ before.nodes →
    after.known ≡ before.known → Puts slots seats before.seats.items after.seats.items → (fresh old new : List MachinePart) → AreOnce slots →
    AreSeatsOf fresh before.codes.items before.nodes.items seats → Puts slots fresh old new → AreDense old before → AreDense new after
seats_put slots before after seats codes nodes known seat_puts fresh old new once fresh_of puts old_of = record {
  seats = subst (λ (list : Vec (Rc CodeData Global) Global). AreSeatsOf new list.items after.nodes.items after.seats.items) (sym codes)
      (subst (λ (list : Vec ℕ Global). AreSeatsOf new before.codes.items list.items after.seats.items) (sym nodes)
      (AreSeatsOf-put slots before.codes.items before.nodes.items fresh old new seats before.seats.items after.seats.items once fresh_of old_of.seats puts
      seat_puts));
  known = subst (λ (list : Vec (Rc CodeData Global) Global). Knows list.items after.known.codes.items) (sym codes)
      (subst (λ (one : KnownRuns). Knows before.codes.items one.codes.items) (sym known) old_of.known);
}

-- parts of texts that have codes by their numbers
pub numbered_part : (numbers : List (Option ℕ)) (parts : List MachinePart) (codes : HaveCodes numbers parts) (k : ℕ) (part : MachinePart) (number : Option ℕ) →
    slice_get parts k ≡ Some part → k < length numbers → number ≡ slice_index_or numbers k None → IsPartNumbered codes.codes number part
numbered_part numbers parts codes k part number part_is inside number_is code has n some =
    codes.each k n part code (slice_get-get_or numbers k None inside ∙ ap Some (sym number_is ∙ some)) part_is has
