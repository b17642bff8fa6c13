-- A name's sum is what the table holds, which is no more than all that was added.
use Rattle.std.proofs.Common.{◌≡◌, ◌+◌, ◌<◌, ◌^◌, ◌∙◌, ap, sym, subst, unwrap_or, arith}
use Rattle.netlist.specs.Names.{held}
use Rattle.netlist.specs.Naming.{entries_of}
use Rattle.netlist.proofs.NameLemmas.{held-entries_of}
use Rattle.sim_read.specs.Capacitances.{all_added}
use Rattle.sim_read.proofs.SumLemmas.{adds, held-all_added}
use Rattle.sim_read.proofs.sums.Sums.add.Goals as goal
use Rattle.sim_read.proofs.sums.Sums.add.Goals.{in-Ok, in-Err}

-- what the table holds
sum_is : (c : goal.After-unwrap_or) → c.unwrap_or.result ≡ unwrap_or (held (entries_of c.self.inside.table.entries) c.args.name.now) 0
sum_is c =
    c.unwrap_or.ensures
    ∙ ap (λ found. unwrap_or found 0) (c.copied.ensures ∙ c.get.ensures.value ∙ held-entries_of c.self.inside.table.entries c.args.name.now)

pub overflow_add-sum : goal.overflow_add-sum
overflow_add-sum c =
    let entries = entries_of c.self.inside.table.entries in
    let room : all_added entries + c.args.more < 2 ^ 64 = subst (λ sums. all_added sums + c.args.more < 2 ^ 64) (sym c.self.view_is) c.requires in
    let most = held-all_added entries c.args.name.now in
    let sum = sum_is c in
    omega arith

pub returns-clause-ok : goal.returns-clause-ok
returns-clause-ok c =
    let was : c.unwrap_or.result ≡ unwrap_or (held (entries_of c.self.inside.table.entries) c.args.name.now) 0 =
    c.unwrap_or.ensures
    ∙ ap (λ found. unwrap_or found 0) (c.copied.ensures ∙ c.get.ensures.value ∙ held-entries_of c.self.inside.table.entries c.args.name.now) in
    elim c.match-insert.branch [
      | in-Ok w ↦ rw w.result-is (adds c.self.inside.table.entries c.insert.new.self.entries c.args.self.now c.in_ok-word.word c.args.name.now
          c.unwrap_or.result c.args.more c.self.view_is (c.in_ok-word.ensures.items_if_clones_equal (λ _ _ same. same)) was w.in-Ok.ensures.entries)
      | in-Err w ↦ rw w.result-is tt
    ]
