-- The node of the change has an owner that isn't apart, and the good run changes it; or one of these fails.
use Rattle.std.proofs.Common.{◌≡◌, sym, subst, ◌∙◌, arith}
use Rattle.std.proofs.lemmas.Bool.{OnTrue_at, OnTrue_from, OnFalse_at, OnFalse_from}
use Rattle.machine_parts.specs.Marking.{IsMarked}
use Rattle.beside_phases.specs.Counting.{FollowsOne}
use Rattle.beside_phases.proofs.counting.follows.Goals as goal

pub owner_at-requires : goal.owner_at-requires
owner_at-requires c = omega (arith, c.requires.inside, c.requires.counted)

pub contains-requires : goal.contains-requires
contains-requires c = omega (arith, ((c.owner_at.ensures c.in-Some.k).0 c.in-Some.is).stands.inside, c.requires.apart)

-- it has no owner
pub returns-in_default-clause-no : goal.returns-in_default-clause-no
returns-in_default-clause-no c = λ follows.
    absurd (cc (c.in_default.is, (c.owner_at.ensures follows.k).1 follows.member))

-- its owner is apart
pub returns-then-contains-clause-no : goal.returns-then-contains-clause-no
returns-then-contains-clause-no c = λ follows.
    let same : c.in-Some.k ≡ follows.k = cc (c.in-Some.is, (c.owner_at.ensures follows.k).1 follows.member) in
    let is : IsMarked c.args.apart.now.inside c.in-Some.k = sym c.contains.ensures ∙ c.if-contains.true in
    follows.follows (subst (IsMarked c.args.apart.now.inside) same is)

pub returns-clause-yes : goal.returns-clause-yes
returns-clause-yes c =
    OnTrue_from _ (FollowsOne c.args.change.now c.args.machine.now.parts c.args.apart.now.inside c.args.good.now) (λ set. record {
      differs = OnTrue_at set c.changes_good.ensures.yes;
      k = c.in-Some.k;
      member = (c.owner_at.ensures c.in-Some.k).0 c.in-Some.is;
      follows = λ is. absurd (cc (c.if-contains.false, c.contains.ensures, is));
    })

-- the good run has its value
pub returns-clause-no : goal.returns-clause-no
returns-clause-no c =
    OnFalse_from _ (¬ FollowsOne c.args.change.now c.args.machine.now.parts c.args.apart.now.inside c.args.good.now) (λ unset follows.
    follows.differs (OnFalse_at unset c.changes_good.ensures.no))
