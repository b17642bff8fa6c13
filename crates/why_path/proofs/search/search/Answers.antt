-- One strength down.
use Rattle.std.proofs.Common.{◌≡◌, ℕ, ◌<◌, All, ◌∙◌, ap, refl, arith, replicate, false}
use Rattle.std.specs.Prelude.{Contains}
use Rattle.std.proofs.lemmas.List.Elements.{All-contains, All-contains_itself, All-weaker}
use Rattle.switch_paths.specs.Graphs.{nodes}
use Rattle.switch_paths.specs.Spread.{rail_of}
use Rattle.why_path.specs.Search.{IsRootIn}
use Rattle.why_path.proofs.SearchLemmas.{started, lowered, IsRootIn-kept}
use Rattle.why_path.proofs.search.search.Goals as goal

pub loop-strength-init : goal.loop-strength-init
loop-strength-init c =
    let unseen : c.in_ok-vec.field-0.items ≡ replicate (nodes c.args.graph.now) false =
    c.in_ok-vec.ensures.items_if_clones_equal (λ _ same. same)
    ∙ ap (λ count. replicate count false) c.nodes.ensures in
    record {
      one = refl;
      sound = rw (c.new.ensures.items, unseen)
          (started (rail_of c.args.one) c.args.graph.now c.args.state.now c.args.best.now c.graphs_are_wired.ensures);
    }

pub add_roots-requires-clause-inside : goal.add_roots-requires-clause-inside
add_roots-requires-clause-inside c =
    All-weaker (Contains c.args.roots.now) (λ node. node < nodes c.args.graph.now) (λ node. (c.requires.roots node).0) c.args.roots.now
    (All-contains_itself c.args.roots.now)

pub loop-strength-preserved : goal.loop-strength-preserved
loop-strength-preserved c =
    let one = c.loop-strength.invariant.one in
    let roots = c.in_ok-add_roots.ensures in
    let wide = c.in_ok-widen.ensures in
    let rail = rail_of c.args.one in
    let same : c.add_roots.new.progress.one ≡ c.args.one = roots.one ∙ one in
    let In : ℕ → Type 0 =
    IsRootIn rail c.args.graph.now c.args.state.now c.args.best.now c.loop-strength.strength c.add_roots.new.progress.found.items in
    let every : All In c.args.roots.now = rw one at roots.roots in
    record {
      one = wide.one ∙ same;
      sound = lowered rail c.args.graph.now c.args.state.now c.args.best.now (omega arith) (rw same at wide.sound) wide.settled
          (λ node root. IsRootIn-kept rail c.args.graph.now c.args.state.now c.args.best.now wide.kept
          (All-contains In c.args.roots.now node every ((c.requires.roots node).1 root.in_range)) root);
    }

pub returns : goal.returns
returns c =
    let none : c.loop-strength.strength ≡ 0 = omega arith in
    rw none at c.loop-strength.invariant.sound
