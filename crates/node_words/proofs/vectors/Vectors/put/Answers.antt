use Rattle.std.proofs.Common.{◌≡◌, ◌+◌, ◌-◌, length, refl, ap, sym, inr, arith}
use Rattle.node_words.specs.Vectors.{entries_in, lists_of, with_list}
use Rattle.node_words.proofs.VectorLemmas.{counted, total_fault-none, total_fault-past, was-le}
use Rattle.node_words.proofs.vectors.Vectors.put.Goals.{After-len}
use Rattle.node_words.proofs.vectors.Vectors.put.Goals as goal

-- the list is as long as it says, and so many entries there are with it
long : (c : After-len) → c.len.result ≡ length c.args.list.items
long c = omega (arith, c.len.ensures, c.args.list.ok.0)

count : (c : After-len) → c.self.inside.count - c.length_of-was.result + c.len.result ≡ entries_in (with_list c.args.self.now c.args.name.now c.args.list.items)
count c =
    counted c.self.inside.count c.length_of-was.result c.len.result (lists_of c.self.inside.table.entries) c.args.self.now
    (with_list c.args.self.now c.args.name.now c.args.list.items) c.args.name.now c.args.name.now c.args.list.items
    c.self.invariant.same c.self.view_is c.length_of-was.ensures (long c)
    (ap (λ vectors. with_list vectors c.args.name.now c.args.list.items) (sym c.self.view_is)) refl

pub overflow_sub-count : goal.overflow_sub-count
overflow_sub-count c =
    was-le c.self.inside.count c.length_of-was.result (lists_of c.self.inside.table.entries) c.args.self.now c.args.name.now
    c.self.invariant.same c.self.view_is c.length_of-was.ensures

pub returns-then-count-gt-MOST_IN_ALL-clause-refused : goal.returns-then-count-gt-MOST_IN_ALL-clause-refused
returns-then-count-gt-MOST_IN_ALL-clause-refused c =
    inr (total_fault-past _ (omega (arith, count (goal.at.returns-then-count-gt-MOST_IN_ALL-clause-refused c).After-len, c.if-count-gt-MOST_IN_ALL.true)))

pub invariant_of-self-2 : goal.invariant_of-self-2
invariant_of-self-2 c =
    record {
      same =
          counted c.self.inside.count c.length_of-was.result c.len.result (lists_of c.self.inside.table.entries) c.args.self.now
          (lists_of c.put_list.new.table.entries) c.in_ok-name.name.items c.args.name.now c.args.list.items
          c.self.invariant.same c.self.view_is c.length_of-was.ensures (long (goal.at.invariant_of-self-2 c).After-len) c.in_ok-put_list.ensures.ok c.in_ok-name.ensures;
      few = omega (arith, c.if-count-gt-MOST_IN_ALL.false);
    }

pub returns-clause-allowed : goal.returns-clause-allowed
returns-clause-allowed c =
    total_fault-none _ (omega (arith, count (goal.at.returns-clause-allowed c).After-len, c.if-count-gt-MOST_IN_ALL.false))
