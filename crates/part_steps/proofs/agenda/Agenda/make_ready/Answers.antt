-- What waits still is listed still.
use Rattle.std.proofs.Common.{All, ◌<◌, length, ap, sym, subst, ◌∙◌}
use Rattle.machine_parts.specs.Marking.{IsMarked}
use Rattle.part_steps.proofs.agenda.Agenda.make_ready.Goals as goal

pub keep_waiting-requires : goal.keep_waiting-requires
keep_waiting-requires c =
    subst (λ n. All (λ k. k < n) c.self.inside.waiters.items) (sym (ap length c.deref.ensures.value ∙ c.self.invariant.counted)) c.self.invariant.waiters_inside

pub invariant_of-self : goal.invariant_of-self
invariant_of-self c = record {
  counted = c.self.invariant.counted;
  listed = c.self.invariant.listed;
  marked = c.self.invariant.marked;
  ready = c.self.invariant.ready;
  waits = c.self.invariant.waits;
  once = c.self.invariant.once;
  number = c.self.invariant.number;
  stale_is = c.self.invariant.stale_is;
  waiters_all = λ k waits.
      c.keep_waiting.ensures.all k (subst (λ list. IsMarked list k) (sym c.deref.ensures.value) waits) (c.self.invariant.waiters_all k waits);
  waiters_inside =
      let inside : All (λ k. k < length c.deref.result.now) c.keep_waiting.new.list.items = c.keep_waiting.ensures.inside in
      subst (λ n. All (λ k. k < n) c.keep_waiting.new.list.items) (ap length c.deref.ensures.value ∙ c.self.invariant.counted) inside;
  room = c.self.invariant.room;
}
