-- There are few parts for so many changes, or many.
use Rattle.std.proofs.Common.{◌∙◌}
use Rattle.run_beside.proofs.NearLemmas.{AreNear-current}
use Rattle.run_beside.proofs.near.Near.look.Goals as goal

pub come_near-requires : goal.come_near-requires
come_near-requires c = record {
  counted = c.requires.counted;
  started = c.requires.started;
  room = c.requires.room;
  start_room = c.requires.start_room;
  members = c.requires.members;
  inside = c.requires.inside;
}

pub returns-then-self-clause-near : goal.returns-then-self-clause-near
returns-then-self-clause-near c = λ owners are.
    c.come_near.ensures.near owners (AreNear-current c.args.parts.now owners c.args.self.now c.is_worth-self.result are)

pub returns-then-self-clause-tells : goal.returns-then-self-clause-tells
returns-then-self-clause-tells c = record {
  current = c.come_near.ensures.current ∙ c.is_worth-self.ensures;
  parts = λ set. c.come_near.ensures.apart;
}

pub returns-else-self-clause-near : goal.returns-else-self-clause-near
returns-else-self-clause-near c = λ owners are. AreNear-current c.args.parts.now owners c.args.self.now c.is_worth-self.result are

pub returns-else-self-clause-tells : goal.returns-else-self-clause-tells
returns-else-self-clause-tells c = record {
  current = c.is_worth-self.ensures;
  parts = λ set. absurd (cc (set, c.if-self.false));
}
