-- One node more.
use Rattle.std.proofs.Common.{◌≡◌, ◌<◌, ◌↔◌, None, inl, inr, true, length, ap, refl, sym, subst, ◌∙◌, arith}
use Rattle.std.specs.Prelude.{slice_index_or}
use Rattle.std.proofs.lemmas.List.{length-set}
use Rattle.vicinity.specs.NodeSets.{IsIn}
use Rattle.run_beside.proofs.NearLemmas.{later_in, owned_out, unowned_in}
use Rattle.run_beside.proofs.near.insert_unowned.Goals as goal

pub loop-node-init : goal.loop-node-init
loop-node-init c = record {
  counted = refl;
  so_far = λ node below. absurd (omega (arith, below));
  later = λ node past. c.requires.empty node;
}

pub insert_unless_owned-requires : goal.insert_unless_owned-requires
insert_unless_owned-requires c = omega (arith, c.loop-node-test.true, c.loop-node.invariant.counted, c.requires.counted)

pub loop-node-preserved : goal.loop-node-preserved
loop-node-preserved c =
    let owners = c.args.owners.now in
    let marks = c.loop-node.set.inside in
    let new = c.insert_unless_owned.new.set.inside in
    let i = c.loop-node.node in
    let inv = c.loop-node.invariant in
    let inside : i < length marks = omega (arith, c.loop-node-test.true, inv.counted, c.requires.counted) in
    elim c.insert_unless_owned.ensures [
      | inl (none, put) ↦ record {
        counted = ap length put ∙ (length-set marks i true ∙ inv.counted);
        so_far = λ node below.
            subst (λ list. IsIn list node ↔ (slice_index_or owners node None ≡ None)) (sym put)
            (unowned_in owners marks i inv.so_far inv.later inside none node below);
        later = λ node past is. later_in owners marks i inv.so_far inv.later node past (subst (λ list. IsIn list node) put is);
      }
      | inr (some, same) ↦ record {
        counted = ap length same ∙ inv.counted;
        so_far = λ node below.
            subst (λ list. IsIn list node ↔ (slice_index_or owners node None ≡ None)) (sym same)
            (owned_out owners marks i inv.so_far inv.later some node below);
        later = λ node past is. inv.later node (omega (arith, past)) (subst (λ list. IsIn list node) same is);
      }
    ]

pub returns-clause-unowned : goal.returns-clause-unowned
returns-clause-unowned c = λ node inside. c.loop-node.invariant.so_far node (omega (arith, inside, c.loop-node-test.false))
