-- A later maker has all truths that there were, and what was noted of them is so still.
use Rattle.std.proofs.Common.{◌≡◌, ℕ, ◌<◌, Bool, List, All, inl, inr, sym, ap, ap₂, ◌∙◌, arith}
use Rattle.std.proofs.lemmas.List.Elements.{All-contains}
use Rattle.std.proofs.lemmas.Result.{err_from_is_err_and}
use Rattle.ternary.specs.declared.tern.Tern.{Tern}
use Rattle.machine_parts.specs.declared.part.MachinePart.{MachinePart}
use Rattle.truth_columns.specs.Columns.{AreKept, HasColumn}
use Rattle.truth_columns.proofs.ColumnLemmas.{values_in-kept}
use Rattle.std.specs.Prelude.{slice_index_or, slice_index, false, Result, IfErr, IsErrAnd}
use Rattle.truth_parts.specs.declared.workspace.TruthChange.{TruthChange}
use Rattle.truth_parts.specs.Columns.{rail_in, IsColumn}
use Rattle.truth_parts.specs.Noting.{after_rail, Differs, IsIdle, IsNextOf, IsOf, Notes}
use Rattle.truth_parts.specs.Evaluating.{Evaluated, IsMadeBy, NotesAll}

-- what a fault tells that is passed on is so still
pub passed_on : {T E : Type 0} (P : E → Type 0) (r : Result T E) (e : E) → IsErrAnd r (λ y. y ≡ e) → P e → IfErr r P
passed_on P r e is holds = let p = err_from_is_err_and r is in rw (p.1, p.2) holds

module _ {A : Type 0} (n m : ℕ) (P Q : A → Type 0) (f g : A → ℕ → Bool) (kept : AreKept n P f m Q g) where
  -- all changes are of the later maker
  pub AreOf-kept : (changes : List (TruthChange A)) → All (IsOf P) changes → All (IsOf Q) changes
  AreOf-kept changes all = λ k d inside.
      let own = all k d inside in
      record { high = kept.there _ own.high; low = kept.there _ own.low }

  -- a column has the states that it had
  pub HasColumn-kept : (hi lo : List A) → All P hi → All P lo → (column : ℕ) (state : List Tern) → column < n → HasColumn f column hi lo state → HasColumn g column hi lo state
  HasColumn-kept hi lo highs lows column state inside has = record {
    ones = values_in-kept n m P Q f g column hi kept highs inside ∙ has.ones;
    zeros = values_in-kept n m P Q f g column lo kept lows inside ∙ has.zeros;
  }

  -- and had before those that it has
  pub IsColumn-before : (hi lo : List A) → All P hi → All P lo → (column : ℕ) (state : List Tern) → IsColumn m g hi lo column state → IsColumn n f hi lo column state
  IsColumn-before hi lo highs lows column state col =
      let inside : column < n = omega (arith, kept.count, col.inside) in
      record {
        inside = inside;
        has = record {
          ones = sym (values_in-kept n m P Q f g column hi kept highs inside) ∙ col.has.ones;
          zeros = sym (values_in-kept n m P Q f g column lo kept lows inside) ∙ col.has.zeros;
        };
      }

  rail-kept : (truths : List A) → All P truths → (column : ℕ) → column < n → (node : ℕ) → rail_in g column truths node ≡ rail_in f column truths node
  rail-kept truths all column inside node = ap (λ bits. slice_index_or bits node false) (values_in-kept n m P Q f g column truths kept all inside)

  -- a rail that was made of two holds where these say it, also by what they are later
  pub rail-given : (joining : Bool) (old given made : A) → P old → P given →
      ((column : ℕ) → column < n → g made column ≡ after_rail joining (f old column) (f given column)) →
      (column : ℕ) → column < m → g made column ≡ after_rail joining (g old column) (g given column)
  rail-given joining old given made has_old has_given value column inside =
      let within : column < n = omega (arith, kept.count, inside) in
      value column within ∙ ap₂ (after_rail joining) (sym (kept.stays old column has_old within)) (sym (kept.stays given column has_given within))

  -- and so it holds later
  pub rail-later : (joining : Bool) (old given made : A) → P old → P given → P made →
      ((column : ℕ) → column < n → f made column ≡ after_rail joining (f old column) (f given column)) →
      (column : ℕ) → column < m → g made column ≡ after_rail joining (g old column) (g given column)
  rail-later joining old given made has_old has_given has_made value column inside =
      rail-given joining old given made has_old has_given (λ c below. kept.stays made c has_made below ∙ value c below) column inside

  module _ (hi lo : List A) (highs : All P hi) (lows : All P lo) where
    -- a change that changes its node does so still
    pub Differs-kept : (change : TruthChange A) → IsOf P change → Differs n f hi lo change → Differs m g hi lo change
    Differs-kept change mine differs = record {
      column = differs.column;
      inside = omega (arith, kept.count, differs.inside);
      other = λ leaves. differs.other (record {
        high = sym (kept.stays change.hi differs.column mine.high differs.inside) ∙ leaves.high ∙ rail-kept hi highs differs.column differs.inside change.node;
        low = sym (kept.stays change.lo differs.column mine.low differs.inside) ∙ leaves.low ∙ rail-kept lo lows differs.column differs.inside change.node;
      });
    }

    module _ (joining : Bool) (nodes : List ℕ) (ones others : List A) (all_ones : All P ones) (all_others : All P others) where
      IsNextOf-kept : (place : ℕ) (change : TruthChange A) → IsOf P change → IsNextOf joining n f hi lo ones others place change → IsNextOf joining m g hi lo ones others place change
      IsNextOf-kept place change mine next = record {
        high = λ column inside.
            let within : column < n = omega (arith, kept.count, inside) in
            kept.stays change.hi column mine.high within ∙ next.high column within
            ∙ ap₂ (after_rail joining) (sym (rail-kept hi highs column within change.node)) (sym (rail-kept ones all_ones column within place));
        low = λ column inside.
            let within : column < n = omega (arith, kept.count, inside) in
            kept.stays change.lo column mine.low within ∙ next.low column within
            ∙ ap₂ (after_rail joining) (sym (rail-kept lo lows column within change.node)) (sym (rail-kept others all_others column within place));
      }

      IsIdle-kept : (node place : ℕ) → IsIdle joining n f hi lo ones others node place → IsIdle joining m g hi lo ones others node place
      IsIdle-kept node place idle = record {
        high = λ column inside.
            let within : column < n = omega (arith, kept.count, inside) in
            ap₂ (after_rail joining) (rail-kept hi highs column within node) (rail-kept ones all_ones column within place) ∙ idle.high column within
            ∙ sym (rail-kept hi highs column within node);
        low = λ column inside.
            let within : column < n = omega (arith, kept.count, inside) in
            ap₂ (after_rail joining) (rail-kept lo lows column within node) (rail-kept others all_others column within place) ∙ idle.low column within
            ∙ sym (rail-kept lo lows column within node);
      }

      -- what was noted place by place is noted still
      pub Notes-kept : (count : ℕ) (old new : List (TruthChange A)) → All (IsOf P) new → Notes joining n f nodes hi lo ones others count old new →
          Notes joining m g nodes hi lo ones others count old new
      Notes-kept count old new mine notes = record {
        kept = notes.kept;
        noted = λ place inside.
            elim (notes.noted place inside) [
              | inl has ↦ inl has
              | inr idle ↦ inr (IsIdle-kept (slice_index nodes place) place idle)
            ];
        only = λ change there.
            elim (notes.only change there) [
              | inl before ↦ inl before
              | inr noted ↦
                  let own = All-contains (IsOf P) new change mine there in
                  inr (record {
                    place = noted.place;
                    inside = noted.inside;
                    node = noted.node;
                    next = IsNextOf-kept noted.place change own noted.next;
                    differs = Differs-kept change own noted.differs;
                  })
            ];
      }

    module _ (joining : Bool) (parts : List MachinePart) where
      NotesAll-kept : (k : ℕ) (changes : List (TruthChange A)) → NotesAll joining parts n f hi lo k changes → NotesAll joining parts m g hi lo k changes
      NotesAll-kept k changes notes column state col node value gives = notes column state (IsColumn-before hi lo highs lows column state col) node value gives

      IsMadeBy-kept : (k : ℕ) (change : TruthChange A) → IsOf P change → IsMadeBy joining parts n f hi lo k change → IsMadeBy joining parts m g hi lo k change
      IsMadeBy-kept k change mine made = record {
        inside = made.inside;
        next = λ column state col.
            let before = IsColumn-before hi lo highs lows column state col in
            let next = made.next column state before in
            record {
              given = next.given;
              gives = next.gives;
              one = kept.stays change.hi column mine.high before.inside ∙ next.one;
              zero = kept.stays change.lo column mine.low before.inside ∙ next.zero;
            };
        differs = Differs-kept change mine made.differs;
      }

      -- what was evaluated is noted still
      pub Evaluated-kept : (changes : List (TruthChange A)) (done : List ℕ) → All (IsOf P) changes → Evaluated joining parts n f hi lo changes done →
          Evaluated joining parts m g hi lo changes done
      Evaluated-kept changes done mine evaluated = record {
        noted = λ k there. NotesAll-kept k changes (evaluated.noted k there);
        only = λ change there.
            let (k, contained, made) = evaluated.only change there in
            (k, contained, IsMadeBy-kept k change (All-contains (IsOf P) changes change mine there) made);
      }
