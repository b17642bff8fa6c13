-- A place that was taken out of the set gets its mark.
use Rattle.std.proofs.Common.{◌-◌, ◌∷◌, [], true, Contains, sym, subst, arith}
use Rattle.std.proofs.lemmas.List.{length-set}
use Rattle.std.proofs.lemmas.List.Elements.{Contains-append_left}
use Rattle.bool_pool.proofs.CollectLemmas.{last_waits}
use Rattle.bool_pool.proofs.WindowLemmas.{Waits-marked, ↔-trans}
use Rattle.bool_pool.proofs.reach.mark_newer.Goals as goal

pub index_mut-requires : goal.index_mut-requires
index_mut-requires c =
    let inside = c.loop-place.invariant.0 c.in-Some.place (last_waits _ _ _ c.in-Some.ensures.removal) in
    omega (arith, inside, c.in-Some.ensures.from)

pub loop-place-preserved : goal.loop-place-preserved
loop-place-preserved c =
    let place = c.in-Some.place in
    let marks = c.loop-place.marks.items in
    let rest = c.pop_newer.new.places.keys in
    let is = c.in-Some.ensures.removal in
    let inside = c.loop-place.invariant.0 place (last_waits _ _ _ is) in
    rw (length-set marks (place - c.args.bottom) true) (
      λ k held. c.loop-place.invariant.0 k (subst (λ all. Contains all k) (sym is) (Contains-append_left rest (place ∷ []) k held)),
      c.loop-place.invariant.1,
      λ k. ↔-trans (Waits-marked c.loop-place.older.keys rest c.args.bottom marks place k is c.in-Some.ensures.from inside)
          (c.loop-place.invariant.2 k),
    )

pub returns-clause-below : goal.returns-clause-below
returns-clause-below c = λ k held.
    c.in_default.ensures.below k (subst (λ all. Contains all k) c.in_default.ensures.none held)
