-- What stands in the place of all roots is cut into the rails and the rest.
use Rattle.std.proofs.Common.{◌≡◌, ℕ, ◌++◌, List, length, take, drop, ap, ap₂, ◌∙◌, arith, length-append, length-drop}
use Rattle.std.proofs.lemmas.List.Elements.{All-append}
use Rattle.decision_graph.specs.declared.vertex.Function.{Function}
use Rattle.truth_makers.specs.Makers.{IsFunctionOf}
use Rattle.symbol_stage.specs.Compacting.{AreMoved}
use Rattle.symbol_stage.proofs.MovedLemmas.{AreMoved-whole, IsMoved-parts}
use Rattle.symbol_stage.proofs.compacting.moved.Goals as goal

pub compact-requires : goal.compact-requires
compact-requires c =
    let m = c.args.machine.now in
    let has = IsFunctionOf m.maker in
    let are = c.are_rails.ensures in
    record {
      inside = rw (c.truths-symbols.ensures, c.deref.ensures.value, c.in_ok-roots.ensures, c.hi-highs.ensures, c.lo-lows.ensures)
          (All-append has (m.hi ++ m.lo) c.args.others.now (All-append has m.hi m.lo are.highs are.lows) c.requires.inside);
      some = c.requires.some;
    }

pub cut-requires : goal.cut-requires
cut-requires c =
    let m = c.args.machine.now in
    let whole : AreMoved m.maker c.in_ok-made.made ((m.hi ++ m.lo) ++ c.args.others.now) c.in_ok-made.all.items =
    AreMoved-whole m.maker c.truths-symbols.result.now c.in_ok-made.made m.hi m.lo c.hi-highs.result.now c.lo-lows.result.now c.args.others.now
    c.in_ok-roots.roots.items c.deref.result.now c.in_ok-made.all.items c.truths-symbols.ensures c.hi-highs.ensures c.lo-lows.ensures c.in_ok-roots.ensures
    c.deref.ensures.value c.in_ok-made.ensures.shape c.in_ok-made.ensures.counted c.in_ok-made.ensures.inside c.in_ok-made.ensures.same in
    omega (
      arith,
      whole.counted,
      length-append (m.hi ++ m.lo) c.args.others.now,
      length-append m.hi m.lo,
      ap (λ (list : List Function). length list) c.hi-highs.ensures,
      ap (λ (list : List Function). length list) c.deref-2.ensures.value,
    )

pub cut-requires-2 : goal.cut-requires-2
cut-requires-2 c =
    let m = c.args.machine.now in
    let whole : AreMoved m.maker c.in_ok-made.made ((m.hi ++ m.lo) ++ c.args.others.now) c.in_ok-made.all.items =
    AreMoved-whole m.maker c.truths-symbols.result.now c.in_ok-made.made m.hi m.lo c.hi-highs.result.now c.lo-lows.result.now c.args.others.now
    c.in_ok-roots.roots.items c.deref.result.now c.in_ok-made.all.items c.truths-symbols.ensures c.hi-highs.ensures c.lo-lows.ensures c.in_ok-roots.ensures
    c.deref.ensures.value c.in_ok-made.ensures.shape c.in_ok-made.ensures.counted c.in_ok-made.ensures.inside c.in_ok-made.ensures.same in
    let rest : c.in_ok-hi.rest.items ≡ drop (length m.hi) c.in_ok-made.all.items =
    c.in_ok-hi.ensures.1
    ∙ ap₂ (λ (n : ℕ) (list : List Function). drop n list) (ap (λ (list : List Function). length list) c.hi-highs.ensures) c.deref-2.ensures.value in
    omega (
      arith,
      whole.counted,
      length-append (m.hi ++ m.lo) c.args.others.now,
      length-append m.hi m.lo,
      length-drop (length m.hi) c.in_ok-made.all.items,
      ap (λ (list : List Function). length list) rest,
      ap (λ (list : List Function). length list) c.lo-lows.ensures,
      ap (λ (list : List Function). length list) c.deref-3.ensures.value,
    )

pub returns : goal.returns
returns c =
    let m = c.args.machine.now in
    let whole : AreMoved m.maker c.in_ok-made.made ((m.hi ++ m.lo) ++ c.args.others.now) c.in_ok-made.all.items =
    AreMoved-whole m.maker c.truths-symbols.result.now c.in_ok-made.made m.hi m.lo c.hi-highs.result.now c.lo-lows.result.now c.args.others.now
    c.in_ok-roots.roots.items c.deref.result.now c.in_ok-made.all.items c.truths-symbols.ensures c.hi-highs.ensures c.lo-lows.ensures c.in_ok-roots.ensures
    c.deref.ensures.value c.in_ok-made.ensures.shape c.in_ok-made.ensures.counted c.in_ok-made.ensures.inside c.in_ok-made.ensures.same in
    let count = ap (λ (list : List Function). length list) c.hi-highs.ensures in
    let count_low = ap (λ (list : List Function). length list) c.lo-lows.ensures in
    IsMoved-parts m.maker c.in_ok-made.made m.hi m.lo c.args.others.now c.in_ok-made.all.items c.in_ok-hi.hi.items c.in_ok-hi.rest.items c.in_ok-lo.lo.items
    c.in_ok-lo.found.items whole
    (c.in_ok-hi.ensures.0 ∙ ap₂ (λ (n : ℕ) (list : List Function). take n list) count c.deref-2.ensures.value)
    (c.in_ok-hi.ensures.1 ∙ ap₂ (λ (n : ℕ) (list : List Function). drop n list) count c.deref-2.ensures.value)
    (c.in_ok-lo.ensures.0 ∙ ap₂ (λ (n : ℕ) (list : List Function). take n list) count_low c.deref-3.ensures.value)
    (c.in_ok-lo.ensures.1 ∙ ap₂ (λ (n : ℕ) (list : List Function). drop n list) count_low c.deref-3.ensures.value)
