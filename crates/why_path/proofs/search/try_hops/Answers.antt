-- One place more: a node that a hop lands at is taken, or was found before; else the hop is passed over.
use Rattle.std.proofs.Common.{◌≡◌, ◌∙◌, ℕ, ◌+◌, ◌<◌, List, ap, refl, true, false, Some, length, arith, take, get_or}
use Rattle.std.specs.Prelude.{slice_get, Contains}
use Rattle.std.proofs.lemmas.List.{take_all}
use Rattle.std.proofs.lemmas.Option.{slice_get_read}
use Rattle.switch_paths.specs.Spread.{rail_of}
use Rattle.why_path.specs.declared.search.Found.{Found}
use Rattle.why_path.specs.Search.{IsIn, IsPassed, IsSearch, Keeps}
use Rattle.why_path.proofs.SearchLemmas.{passed_more, passed_nowhere, passed_found, landed, entered, read_at}
use Rattle.why_path.proofs.FoundLemmas.{Keeps-append, Keeps-trans}
use Rattle.why_path.proofs.search.try_hops.Goals.{In-loop-place}
use Rattle.why_path.proofs.search.try_hops.Goals as goal

-- the entry whose hops are tried stands at its place
stands : (c : In-loop-place) → slice_get c.loop-place.progress.found.items c.args.from ≡ Some c.index-entry.result.now
stands c =
    let start = c.args.progress.now.found.items in
    let read = c.index-entry.result.now in
    c.loop-place.invariant.kept c.args.from read (slice_get_read start (length start) c.args.from read refl c.requires.from c.index-entry.ensures)

-- where it passed this place, one place more is passed
passed_next : (c : In-loop-place) (new : List Found) → Keeps c.loop-place.progress.found.items new → c.loop-place.place-index < length c.args.places.now →
    IsPassed c.args.graph.now c.args.state.now c.args.best.now c.args.strength new c.index-entry.result.now (get_or c.args.places.now c.loop-place.place-index 0) →
    (entry : Found) → slice_get c.args.progress.now.found.items c.args.from ≡ Some entry →
    (place : ℕ) → Contains (take (c.loop-place.place-index + 1) c.args.places.now) place →
    IsPassed c.args.graph.now c.args.state.now c.args.best.now c.args.strength new entry place
passed_next c new kept within here entry at =
    let read = c.index-entry.result.now in
    let same : read ≡ entry = read_at c.args.progress.now.found.items c.args.from read entry c.requires.from c.index-entry.ensures at in
    passed_more c.args.graph.now c.args.state.now c.args.best.now c.args.strength c.loop-place.progress.found.items new kept entry c.args.places.now
    c.loop-place.place-index within (c.loop-place.invariant.passed entry at) (rw same at here)

pub loop-place-preserved : goal.loop-place-preserved
loop-place-preserved c =
    let at = (goal.at.loop-place-preserved c).In-loop-place in
    let rail = rail_of c.args.progress.now.one in
    let old = c.loop-place.progress.found.items in
    let new = c.take.new.progress.found.items in
    let seen = c.loop-place.progress.seen.items in
    let so_far = c.loop-place.invariant in
    let read = c.index-entry.result.now in
    let lands = c.in-Some.ensures in
    let node = c.in-Some.node in
    let taken = c.in_ok-take.ensures in
    let fresh : slice_get seen node ≡ Some false =
    slice_get_read seen (length seen) node c.index.result.now refl (omega (arith, lands.in_range, so_far.sound.marks)) c.index.ensures
    ∙ ap Some c.if-index.false in
    let kept : Keeps old new = rw taken.found (Keeps-append old _) in
    let is_in : IsIn new node c.args.strength = rw taken.found (entered old _) in
    let sound : IsSearch rail c.args.graph.now c.args.state.now c.args.best.now c.args.strength new c.take.new.progress.seen.items =
    rw (taken.found, taken.seen)
    (landed rail c.args.graph.now c.args.state.now c.args.best.now so_far.sound c.args.from read _ node (stands at) lands fresh) in
    record {
      one = taken.one ∙ so_far.one;
      kept = Keeps-trans c.args.progress.now.found.items old new so_far.kept kept;
      sound = sound;
      passed = passed_next at new kept (omega arith)
          (passed_found rail c.args.graph.now c.args.state.now c.args.best.now sound c.args.from read _ node (kept c.args.from read (stands at)) lands is_in);
    }

pub loop-place-preserved-then-index : goal.loop-place-preserved-then-index
loop-place-preserved-then-index c =
    let at = (goal.at.loop-place-preserved-then-index c).In-loop-place in
    let seen = c.loop-place.progress.seen.items in
    let so_far = c.loop-place.invariant in
    let lands = c.in-Some.ensures in
    let node = c.in-Some.node in
    let marked : slice_get seen node ≡ Some true =
    slice_get_read seen (length seen) node c.index.result.now refl (omega (arith, lands.in_range, so_far.sound.marks)) c.index.ensures
    ∙ ap Some c.if-index.true in
    record {
      one = so_far.one;
      kept = so_far.kept;
      sound = so_far.sound;
      passed = passed_next at c.loop-place.progress.found.items (λ k e here. here) (omega arith)
          (passed_found (rail_of c.args.progress.now.one) c.args.graph.now c.args.state.now c.args.best.now so_far.sound c.args.from
          c.index-entry.result.now _ node (stands at) lands (so_far.sound.known node marked));
    }

pub loop-place-preserved-in_default : goal.loop-place-preserved-in_default
loop-place-preserved-in_default c =
    let at = (goal.at.loop-place-preserved-in_default c).In-loop-place in
    let so_far = c.loop-place.invariant in
    let here = passed_nowhere (rail_of c.args.progress.now.one) c.args.graph.now c.args.state.now c.args.best.now so_far.sound c.args.from
    c.index-entry.result.now _ (stands at) c.in_default.ensures in
    let passed = passed_next at c.loop-place.progress.found.items (λ k e still. still) (omega arith) here in
    record { one = so_far.one; kept = so_far.kept; sound = so_far.sound; passed = passed }

pub returns-clause-passed : goal.returns-clause-passed
returns-clause-passed c = λ entry at place near.
    let all = take_all c.loop-place.place-index c.args.places.now (omega arith) in
    c.loop-place.invariant.passed entry at place (rw all near)
