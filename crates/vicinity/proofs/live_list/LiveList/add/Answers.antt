-- The place stands at the end, and then in front or not.
use Rattle.std.proofs.Common.{◌≡◌, ◌∷◌, ◌++◌, [], ℕ, List, take, sym, subst, arith}
use Rattle.std.specs.Prelude.{Contains}
use Rattle.std.proofs.lemmas.List.{length_push, take-append-le}
use Rattle.machine_parts.proofs.MarkLemmas.{AreOnce-push}
use Rattle.vicinity.specs.Lists.{LiveListData}
use Rattle.vicinity.specs.LiveLists.{TurnsIn}
use Rattle.vicinity.proofs.TouchLemmas.{Contains-front}
use Rattle.vicinity.proofs.LiveListLemmas.{AddsIn-turned}
use Rattle.vicinity.proofs.live_list.LiveList.add.Goals.{After-push}
use Rattle.vicinity.proofs.live_list.LiveList.add.Goals as goal

-- it wasn't there before
fresh : (c : After-push) → ¬ Contains c.self.inside.places.items c.args.place
fresh c = subst (λ (list : LiveListData). ¬ Contains list.all c.args.place) (sym c.self.view_is) c.requires

pub invariant_of-self-2 : goal.invariant_of-self-2
invariant_of-self-2 c =
    let items = c.self.inside.places.items in
    let place = c.args.place in
    rw c.in_ok-push.ensures.ok (
      omega (arith, length_push items place, c.self.invariant.0),
      AreOnce-push items place c.self.invariant.1 (fresh (goal.at.invariant_of-self-2 c).After-push),
    )

pub returns : goal.returns
returns c =
    let items = c.self.inside.places.items in
    let border = c.self.inside.border in
    let place = c.args.place in
    let live = c.args.live in
    let new = c.turn.new.self in
    let longer : c.push.new.self.items ≡ items ++ place ∷ [] = c.in_ok-push.ensures.ok in
    let turns : TurnsIn live place (record { items = take border c.push.new.self.items; all = c.push.new.self.items }) new = c.turn.ensures.turns in
    let grown : TurnsIn live place (record { items = take border (items ++ place ∷ []); all = items ++ place ∷ [] }) new =
    subst (λ (list : List ℕ). TurnsIn live place (record { items = take border list; all = list }) new) longer turns in
    let front : TurnsIn live place (record { items = take border items; all = items ++ place ∷ [] }) new =
    subst (λ (list : List ℕ). TurnsIn live place (record { items = list; all = items ++ place ∷ [] }) new)
    (take-append-le border items (place ∷ []) c.self.invariant.0) grown in
    rw (← c.self.view_is) (AddsIn-turned live place (record { items = take border items; all = items }) new
    (fresh (goal.at.returns c).After-push) (λ q there. Contains-front items border q there) front)
