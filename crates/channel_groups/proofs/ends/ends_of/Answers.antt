-- No place is listed at first, and at last all are.
use Rattle.std.proofs.Common.{◌≡◌, ℕ, length, subst, arith, rules}
use Rattle.channel_groups.specs.Listing.{places_of, AreListedTo}
use Rattle.channel_groups.proofs.ListingLemmas.{AreListedTo-none, AreListed-all}
use Rattle.channel_groups.proofs.ends.ends_of.Goals as goal

pub loop-place-init : goal.loop-place-init
loop-place-init c = record {
  firsts_count = search rules;
  seconds_count = search rules;
  firsts = AreListedTo-none (λ switch. switch.a) c.args.graph.now (places_of c.in_ok-no_places.field-0.items) c.in_ok-no_places.ensures.none;
  seconds = AreListedTo-none (λ switch. switch.b) c.args.graph.now (places_of c.in_ok-no_places-2.field-0.items) c.in_ok-no_places-2.ensures.none;
}

pub returns : goal.returns
returns c =
    let g = c.args.graph.now in
    let so_far = c.loop-place.invariant in
    let all : c.loop-place.place ≡ length g.places = omega arith in
    record {
      firsts =
          AreListed-all (λ switch. switch.a) g (places_of c.loop-place.ends.firsts.items)
          (subst (λ (n : ℕ). AreListedTo (λ switch. switch.a) g n (places_of c.loop-place.ends.firsts.items)) all so_far.firsts);
      seconds =
          AreListed-all (λ switch. switch.b) g (places_of c.loop-place.ends.seconds.items)
          (subst (λ (n : ℕ). AreListedTo (λ switch. switch.b) g n (places_of c.loop-place.ends.seconds.items)) all so_far.seconds);
      firsts_count = so_far.firsts_count;
      seconds_count = so_far.seconds_count;
    }
