-- What entered behind them leaves, or nothing did.
use Rattle.std.proofs.Common.{◌≡◌, ◌<◌, ◌≤◌, length, refl, sym, subst, arith}
use Rattle.std.proofs.lemmas.List.{take_all}
use Rattle.run_beside.specs.Near.{IsCut, start_at}
use Rattle.run_beside.proofs.NearLemmas.{AreNear-left}
use Rattle.run_beside.proofs.near.Near.leave_behind.Goals as goal

pub returns-in_default-clause-stay : goal.returns-in_default-clause-stay
returns-in_default-clause-stay c =
    let self = c.args.self.now in
    let past : length self.starts.items ≤ c.args.first = rw (c.in_default.is, c.deref.ensures.value) at c.start_of.ensures.none in
    record {
      parts = sym (take_all c.args.first self.parts.items (omega (arith, past, c.requires)));
      starts = sym (take_all c.args.first self.starts.items past);
      counted = refl;
      room = refl;
      start_room = refl;
      current = refl;
    }

pub returns-clause-near : goal.returns-clause-near
returns-clause-near c = λ list owners are.
    let self = c.args.self.now in
    let within : c.args.first < length self.starts.items = rw c.deref.ensures.value at c.in-Some.ensures.inside in
    let start : c.in-Some.start ≡ start_at self c.args.first = rw c.deref.ensures.value at c.in-Some.ensures.some in
    AreNear-left list owners c.args.first self _ (omega (arith, within, c.requires))
    (subst (λ n. IsCut n self.nodes c.cut.new.set) start c.cut.ensures)
    (record {
      parts = c.truncate.ensures.items;
      starts = c.truncate-2.ensures.items;
      counted = c.cut.ensures.counted;
      room = c.truncate.ensures.capacity;
      start_room = c.truncate-2.ensures.capacity;
      current = refl;
    })
    are

pub returns-clause-stay : goal.returns-clause-stay
returns-clause-stay c = record {
  parts = c.truncate.ensures.items;
  starts = c.truncate-2.ensures.items;
  counted = c.cut.ensures.counted;
  room = c.truncate.ensures.capacity;
  start_room = c.truncate-2.ensures.capacity;
  current = refl;
}
