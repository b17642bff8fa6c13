-- Graphs compared by their levels and places: the test, and that it decides whether two graphs are one.
use Rattle.std.specs.Prelude.{◌≡◌, ◌==◌, Bool, true, ◌&&◌, ◌++◌, Option, Some, None}
use Rattle.std.specs.Bool.{Decides}
use Rattle.std.specs.Option.{option_eq}
use Rattle.std.specs.Cmp.{IsEquivalence}
use Rattle.std.specs.Cmp.Lexicographic.{pointwise, pointwise_decides}
use Rattle.std.specs.Hash as fed
use Rattle.std.proofs.Common.{rules, refl, sym, ap}
use Rattle.std.proofs.lemmas.Bool.Decides.{Decides-eqb, Decides-and, Decides-like, same_from_decides}
use Rattle.switch_paths.specs.declared.switching.Switch.{Switch}
use Rattle.switch_paths.specs.declared.switching.SwitchKind.{SwitchKind}
use Rattle.switch_paths.specs.contracts.switching.SwitchPartialEq.TheImpl as switch
use Rattle.switch_paths.specs.contracts.switching.SwitchKindPartialEq.TheImpl as kind
use Rattle.switch_paths.specs.contracts.switching.SwitchHash.TheImpl as hash
use Rattle.switch_paths.specs.Graphs.{GraphData}

-- a test that decides equality is an equivalence
pub equivalence_of : {K : Type 0} (E : K → K → Bool) → ((x y : K) → Decides (E x y) (x ≡ y)) → IsEquivalence E
equivalence_of E decides = record {
  refl = λ x. (decides x x).1 refl;
  symm = λ x y. same_from_decides (E x y) (E y x) (decides x y) (Decides-like (E y x) sym sym (decides y x));
  congr = λ x y z same. ap (λ w. E w z) ((decides x y).0 same);
}

-- options are equal if both are empty or hold equal items
pub options_decide : {K : Type 0} (E : K → K → Bool) → ((x y : K) → Decides (E x y) (x ≡ y)) →
    (x y : Option K) → Decides (option_eq E x y) (x ≡ y)
options_decide E decides None None = (λ _. refl, λ _. refl)
options_decide E decides None (Some y) = (λ e. absurd (cc), λ e. absurd (cc))
options_decide E decides (Some x) None = (λ e. absurd (cc), λ e. absurd (cc))
options_decide E decides (Some x) (Some y) = (λ e. ap Some ((decides x y).0 e), λ e. (decides x y).1 (cc))

-- the test of two kinds decides
kinds_decide : (a b : SwitchKind) → Decides (kind.eq-value.it a b) (a ≡ b)
kinds_decide a b = search rules

-- two switches are equal where all five parts are
switches_decide : (a b : Switch) → Decides (switch.eq-value.it a b) (a ≡ b)
switches_decide a b =
    let parts = Decides-and (kind.eq-value.it a.kind b.kind)
    (a.level == b.level && (a.gate == b.gate && (a.a == b.a && a.b == b.b))) (kinds_decide a.kind b.kind)
    (Decides-and (a.level == b.level) (a.gate == b.gate && (a.a == b.a && a.b == b.b)) (Decides-eqb a.level b.level)
    (Decides-and (a.gate == b.gate) (a.a == b.a && a.b == b.b) (Decides-eqb a.gate b.gate)
    (Decides-and (a.a == b.a) (a.b == b.b) (Decides-eqb a.a b.a) (Decides-eqb a.b b.b)))) in
    Decides-like (switch.eq-value.it a b)
    (λ p i. record { kind = p.0 i; level = p.1.0 i; gate = p.1.1.0 i; a = p.1.1.1.0 i; b = p.1.1.1.1 i })
    (λ e. (ap (λ s. s.kind) e, (ap (λ s. s.level) e, (ap (λ s. s.gate) e, (ap (λ s. s.a) e, ap (λ s. s.b) e)))))
    parts

-- what stands at two places is the same
abbrev pub same_place : Option Switch → Option Switch → Bool
same_place = option_eq switch.eq-value.it

-- two graphs have the same levels and the same places
abbrev pub same_graph : GraphData → GraphData → Bool
same_graph a b = pointwise ◌==◌ a.levels b.levels && pointwise same_place a.places b.places

-- and that is so exactly if they are one graph
pub same_graph_decides : (a b : GraphData) → Decides (same_graph a b) (a ≡ b)
same_graph_decides a b =
    Decides-like (same_graph a b)
    (λ p i. record { levels = p.0 i; places = p.1 i })
    (λ e. (ap (λ g. g.levels) e, ap (λ g. g.places) e))
    (Decides-and (pointwise ◌==◌ a.levels b.levels) (pointwise same_place a.places b.places)
    (pointwise_decides Decides-eqb a.levels b.levels)
    (pointwise_decides (options_decide switch.eq-value.it switches_decide) a.places b.places))

pub same_graph_equivalence : IsEquivalence same_graph
same_graph_equivalence = equivalence_of same_graph same_graph_decides

-- what a graph feeds a hasher: its levels, and then its places
abbrev pub graph_writes : GraphData → fed.HashWrites
graph_writes g = fed.slice fed.u8 g.levels ++ fed.slice (fed.option hash.hash_input-value.it) g.places

-- equal graphs feed it the same
pub graph_writes-same : (a b : GraphData) → same_graph a b ≡ true → graph_writes a ≡ graph_writes b
graph_writes-same a b same = ap graph_writes ((same_graph_decides a b).0 same)
