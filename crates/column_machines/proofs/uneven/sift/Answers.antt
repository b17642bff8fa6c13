-- The node that is taken out goes to the other set, or each used column has its state.
use Rattle.std.proofs.Common.{◌≡◌, false, [], ◌∷◌, length, inl, inr, ap, subst, sym, ◌∙◌, refl, arith}
use Rattle.std.proofs.lemmas.Bool.{cases_eq}
use Rattle.std.proofs.lemmas.List.{length-set, length-append, get_or-set_other}
use Rattle.switch_paths.specs.Switching.{state_at}
use Rattle.vicinity.specs.NodeSets.{IsIn, NodeSetData}
use Rattle.column_machines.specs.Columns.{column_states}
use Rattle.column_machines.proofs.ColumnLemmas.{column_states-at}
use Rattle.column_machines.proofs.uneven.sift.Goals as goal

pub loop-node-init : goal.loop-node-init
loop-node-init c = record { less = refl; more = refl; even = λ column node few used inside was out stay. absurd (out was) }

pub put_uneven-requires : goal.put_uneven-requires
put_uneven-requires c = omega (arith, c.in-Some.ensures.within, c.loop-node.invariant.less, c.loop-node.invariant.more, c.requires.inside, c.requires.room)

pub loop-node-preserved : goal.loop-node-preserved
loop-node-preserved c =
    let marks = c.loop-node.uneven.inside in
    let last = c.in-Some.node in
    let put = c.put_uneven.ensures in
    let before = c.loop-node.invariant in
    let hi = c.args.hi.now in
    let lo = c.args.lo.now in
    record {
      less = ap length c.in-Some.ensures.inside ∙ (length-set marks last false ∙ before.less);
      more = put.count ∙ before.more;
      even = λ column node few used inside was out stay.
          elim (cases_eq node last) [
            | inl same ↦
                elim put.there [
                  | inl there ↦ absurd (stay (subst (IsIn c.put_uneven.new.set.inside) (sym same) there))
                  | inr all ↦
                      subst (λ k. state_at (column_states column hi lo) k ≡ state_at c.args.state.now k) (sym same)
                      (column_states-at column hi lo c.requires.even last (omega (arith, inside, same)) ∙ all column few used)
                ]
            | inr differs ↦
                before.even column node few used inside was
                (λ there. out (subst (λ inside. IsIn inside node) (sym c.in-Some.ensures.inside) (get_or-set_other marks last node false false differs ∙ there)))
                (λ there. stay (put.stays node there))
          ];
    }

pub loop-node-smaller : goal.loop-node-smaller
loop-node-smaller c = omega (arith, ap length c.in-Some.ensures.list, length-append c.pop.new.self.list (c.in-Some.node ∷ []))

pub returns-clause-less : goal.returns-clause-less
returns-clause-less c =
    let same : c.pop.new.self ≡ c.loop-node.uneven = rw c.in_default.is at c.pop.ensures.none in
    ap (λ (set : NodeSetData). length set.inside) same ∙ c.loop-node.invariant.less

pub returns-clause-even : goal.returns-clause-even
returns-clause-even c = λ column node few used inside was out.
    let empty = rw c.in_default.is at c.pop.ensures.empty in
    c.loop-node.invariant.even column node few used inside was (empty node) out
