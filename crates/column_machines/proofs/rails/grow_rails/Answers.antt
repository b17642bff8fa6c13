-- One node more is X in each column.
use Rattle.std.proofs.Common.{◌≡◌, ℕ, ◌-◌, ◌≤◌, List, [], ◌∷◌, ◌++◌, length, replicate, refl, ap, subst, arith, length-append}
use Rattle.ternary.specs.declared.tern.Tern.{Tern}
use Rattle.ternary.specs.declared.tern.Tern.TheVariants.{Unk}
use Rattle.word_columns.specs.Columns.{AreRailsIn}
use Rattle.word_columns.proofs.RunLemmas.{high_counted}
use Rattle.machine_parts.proofs.EditingLemmas.{grown-more}
use Rattle.column_machines.proofs.ColumnLemmas.{AreRailsIn-unknown}
use Rattle.column_machines.proofs.rails.grow_rails.Goals as goal

pub loop-node-preserved : goal.loop-node-preserved
loop-node-preserved c =
    let old = c.args.rails.now in
    let rails = c.loop-node.rails in
    let node = c.loop-node._node in
    record {
      has = λ column state inside has.
          let counted : length old.hi.items ≡ length state = high_counted column old.hi.items old.lo.items state has in
          let low : length state ≤ node = omega arith in
          let here : List Tern = state ++ replicate (node - length state) Unk in
          rw (c.push_words.ensures.hi, c.push_words.ensures.lo)
          (subst (AreRailsIn column (rails.hi.items ++ 18446744073709551615 ∷ []) (rails.lo.items ++ 18446744073709551615 ∷ []))
          (grown-more state here (here ++ Unk ∷ []) node low refl refl)
          (AreRailsIn-unknown column rails.hi.items rails.lo.items here inside (c.loop-node.invariant.has column state inside has)));
      highs = omega (arith, ap length c.push_words.ensures.hi, length-append {A = ℕ});
      lows = omega (arith, ap length c.push_words.ensures.lo, length-append {A = ℕ});
      high = omega (arith, ap length c.push_words.ensures.hi, length-append {A = ℕ});
      low = omega (arith, ap length c.push_words.ensures.lo, length-append {A = ℕ});
      from = omega arith;
      to = omega arith;
    }

pub returns-clause-states : goal.returns-clause-states
returns-clause-states c = λ column state inside has.
    let old = c.args.rails.now in
    let counted : length old.hi.items ≡ length state = high_counted column old.hi.items old.lo.items state has in
    let all : c.loop-node._node - length state ≡ c.args.nodes - length state = omega arith in
    rw all at (c.loop-node.invariant.has column state inside has)
