-- One hop back.
use Rattle.std.proofs.Common.{rules, ◌≡◌, ◌<◌, [], ◌∷◌, ◌++◌, arith, append-nil}
use Rattle.std.proofs.lemmas.Option.{slice_get-get_or, slice_get_within}
use Rattle.why_path.specs.Search.IsTrail.{starts}
use Rattle.why_path.proofs.ReasonLemmas.{trail_back}
use Rattle.why_path.proofs.reasons.trail.Goals as goal

pub loop-entry-init : goal.loop-entry-init
loop-entry-init c = record {
  here = slice_get-get_or c.args.found.now c.args.at _ c.requires.inside;
  leads = λ front root trail. rw (c.new-hops.ensures.items, append-nil) trail;
}

pub bounds-found-reached : goal.bounds-found-reached
bounds-found-reached c =
    let here = c.loop-entry.invariant.here in
    let less : c.in-Some.last.from < c.loop-entry.reached = c.requires.back c.loop-entry.reached c.loop-entry.entry c.in-Some.last here c.in-Some.is in
    let inside = slice_get_within c.args.found.now c.loop-entry.reached c.loop-entry.entry here in
    omega arith

pub loop-entry-preserved : goal.loop-entry-preserved
loop-entry-preserved c =
    let here = c.loop-entry.invariant.here in
    let less : c.in-Some.last.from < c.loop-entry.reached = c.requires.back c.loop-entry.reached c.loop-entry.entry c.in-Some.last here c.in-Some.is in
    let inside = slice_get_within c.args.found.now c.loop-entry.reached c.loop-entry.entry here in
    let longer : c.push.new.self.items ≡ c.loop-entry.hops.items ++ c.in-Some.last.place ∷ [] = search rules in
    record {
      here = slice_get-get_or c.args.found.now c.in-Some.last.from _ (omega arith);
      leads = trail_back c.args.found.now c.args.at c.loop-entry.reached c.loop-entry.entry c.in-Some.last c.loop-entry.hops.items
          c.push.new.self.items here c.in-Some.is longer c.loop-entry.invariant.leads;
    }

pub returns : goal.returns
returns c =
    let start = starts c.loop-entry.reached c.loop-entry.entry c.loop-entry.invariant.here c.in_default.is in
    rw c.reverse.ensures.items (c.loop-entry.invariant.leads [] c.loop-entry.entry.node start)
