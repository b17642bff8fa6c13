-- The formulas of the rails of constants and of nodes.
use Rattle.std.proofs.Common.{◌≡◌, ℕ, ◌+◌, ◌<◌, Bool, inl, inr, List, [], ◌∷◌, ◌++◌, length, Option, Some, None, refl, sym, ap, ◌∙◌, subst, arith}
use Rattle.std.proofs.lemmas.Bool.{cases_eq}
use Rattle.std.proofs.lemmas.List.{length_push, get_or_append_left, get_or_push}
use Rattle.ternary.specs.declared.tern.Tern.{Tern}
use Rattle.bool_pool.specs.declared.gate.Gate.{Gate}
use Rattle.bool_pool.specs.declared.gate.Gate.TheVariants.{Var}
use Rattle.bool_pool.specs.declared.gate.Id.{Id}
use Rattle.bool_pool.specs.Gate.{constant_gate, Extends}
use Rattle.bool_pool.specs.Made.{IsLeaf}
use Rattle.bool_pool.proofs.ValueLemmas.{value_at-extends}
use Rattle.bool_pool.proofs.WithinLemmas.{IsWithin-extends, IsWithin-constant, IsWithin-variable}
use Rattle.node_elimination.specs.Growth.{place_of}
use Rattle.node_elimination.specs.LevelSystem.{IsConstant}
use Rattle.group_analysis.specs.Meaning.{constant_at}
use Rattle.node_elimination.specs.Inputs.{IsRail, AreRails}

-- the formula of a constant is a constant
pub IsConstant-leaf : (b : Bool) (gates : List Gate) (id : Id) → IsLeaf gates (constant_gate b) (λ vars. b) id.place →
    IsConstant b gates id
IsConstant-leaf b gates id leaf = record {
  inside = leaf.inside;
  value_is = leaf.value_is;
  within = λ listed bound. IsWithin-constant gates b (λ vars. b) listed bound id.place leaf;
}

-- and stays so
pub IsConstant-extends : (b : Bool) (before after : List Gate) (id : Id) → Extends before after → IsConstant b before id →
    IsConstant b after id
IsConstant-extends b before after id extends constant = record {
  inside = omega (arith, constant.inside, extends.longer);
  value_is = λ vars. value_at-extends before after vars id.place extends constant.inside ∙ constant.value_is vars;
  within = λ listed bound. IsWithin-extends before after listed bound id.place extends (constant.within listed bound);
}

-- the rail of a constant
pub IsRail-constant : (rail : Tern → Bool) (t : Tern) (variable : ℕ) (gates : List Gate) (p : ℕ) →
    IsLeaf gates (constant_gate (rail t)) (λ vars. rail t) p → IsRail rail (Some t) variable gates p
IsRail-constant rail t variable gates p leaf = record {
  inside = leaf.inside;
  value_is = λ vars state given shown. leaf.value_is vars ∙ ap rail (sym (given t refl));
  within = λ listed bound below. IsWithin-constant gates (rail t) (λ vars. rail t) listed bound p leaf;
}

-- the rail that a variable has
pub IsRail-variable : (rail : Tern → Bool) (variable : ℕ) (gates : List Gate) (p : ℕ) →
    IsLeaf gates (Var variable) (λ vars. vars variable) p →
    IsRail rail None variable gates p
IsRail-variable rail variable gates p leaf = record {
  inside = leaf.inside;
  value_is = λ vars state given shown. leaf.value_is vars ∙ shown;
  within = λ listed bound below. IsWithin-variable gates variable (λ vars. vars variable) listed bound p below leaf;
}

-- a rail stays so when gates are added
IsRail-extends : (rail : Tern → Bool) (constant : Option Tern) (variable : ℕ) (before after : List Gate) (p : ℕ) →
    Extends before after →
    IsRail rail constant variable before p → IsRail rail constant variable after p
IsRail-extends rail constant variable before after p extends is_rail = record {
  inside = omega (arith, is_rail.inside, extends.longer);
  value_is = λ vars state given shown. value_at-extends before after vars p extends is_rail.inside
      ∙ is_rail.value_is vars state given shown;
  within = λ listed bound below. IsWithin-extends before after listed bound p extends (is_rail.within listed bound below);
}

-- a formula before the last, and the last one
pub place_of-front : (ids : List Id) (id : Id) (k : ℕ) → k < length ids → place_of (ids ++ id ∷ []) k ≡ place_of ids k
place_of-front ids id k inside = ap (λ x. x.place) (get_or_append_left ids (id ∷ []) (record { place = 0 }) k inside)

pub place_of-last : (ids : List Id) (id : Id) (k : ℕ) → length ids ≡ k → place_of (ids ++ id ∷ []) k ≡ id.place
place_of-last ids id k last = ap (λ x. x.place) (get_or_push ids id (record { place = 0 }) k last)

-- the rails of one node more
pub AreRails-push : (rail : Tern → Bool) (variable : ℕ → ℕ) (constants : List (Option Tern)) (count : ℕ)
    (before after : List Gate)
    (ids : List Id) (id : Id) → Extends before after → AreRails rail variable constants count before ids →
    IsRail rail (constant_at constants count) (variable count) after id.place →
    AreRails rail variable constants (count + 1) after (ids ++ id ∷ [])
AreRails-push rail variable constants count before after ids id extends so_far next = record {
  each_one = omega (arith, length_push ids id, so_far.each_one);
  rails = λ node below.
      elim (cases_eq node count) [
        | inl same ↦
            rw same
            (subst (IsRail rail (constant_at constants count) (variable count) after)
            (sym (place_of-last ids id count so_far.each_one)) next)
        | inr other ↦
            let inside : node < count = omega arith in
            let in_ids : node < length ids = omega (arith, so_far.each_one) in
            subst (IsRail rail (constant_at constants node) (variable node) after) (sym (place_of-front ids id node in_ids))
            (IsRail-extends rail (constant_at constants node) (variable node) before after (place_of ids node) extends
            (so_far.rails node inside))
      ];
}
