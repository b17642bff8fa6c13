-- Rails that are kept under a name, in the place of those that were or else behind the others: the rails of all names are those of states still.
use Rattle.std.proofs.Common.{◌≡◌, ℕ, ◌+◌, ◌<◌, ◌≤◌, Bool, true, false, List, [], ◌∷◌, ◌++◌, length, take, take-add, drop, sym, ap, ap₂, subst, ◌∙◌, append_assoc, length-append, arith, if◌then◌else◌}
use Rattle.std.proofs.lemmas.List.{drop-append-le, drop-drop, drop-take, drop_at, length-drop, length-take-le, take-append-le, take-take, take_at}
use Rattle.ternary.specs.declared.tern.Tern.{Tern}
use Rattle.switch_paths.specs.Rails.{IsSound}
use Rattle.switch_paths.specs.declared.TheConstants.{RAILS}
use Rattle.decision_graph.specs.declared.vertex.Function.{Function}
use Rattle.truth_makers.specs.declared.symbols.Symbols.{Symbols}
use Rattle.truth_makers.specs.Makers.{columns_in, function_holds}
use Rattle.truth_parts.specs.Columns as columns
use Rattle.truth_parts.specs.Columns.{AreColumns}
use Rattle.session_meaning.specs.Saves.{with_save}
use Rattle.symbol_session.specs.Sessions.{AreKeptRails, IsKept, Save, highs_of, lows_of, rest_of, saves_by, states_kept}
use Rattle.symbol_session.specs.Keeping.{before_save, is_named, kept_by, nodes_under, with_name, with_rails}

-- ---- lists

module _ {A : Type 0} where
  pub drop_both : (a b : ℕ) (list : List A) → drop (a + b) list ≡ drop b (drop a list)
  drop_both a b list = sym (drop-drop b a list)

  take_within : (n m : ℕ) (list more : List A) → n ≤ m → m ≤ length list → take n (take m list ++ more) ≡ take n list
  take_within n m list more few long =
      take-append-le n (take m list) more (omega (arith, few, length-take-le m list long)) ∙ take-take n m list few

  drop_within : (n k : ℕ) (list more : List A) → n + k ≤ length list → drop n (take (n + k) list ++ more) ≡ take k (drop n list) ++ more
  drop_within n k list more long =
      drop-append-le n (take (n + k) list) more (omega (arith, length-take-le (n + k) list long))
      ∙ ap (λ (front : List A). front ++ more) (drop-take n k list)

pub length-dropped : {A : Type 0} (n k : ℕ) (list : List A) → n + k ≤ length list → k ≤ length (drop n list)
length-dropped n k list long = omega (arith, length-drop n list, long)

-- ---- where the rails stand

-- past the first rails others are put as they are among those behind
with_later : (rails : List Function) (m place old : ℕ) (highs lows : List Function) →
    with_rails rails (m + place) old highs lows ≡ take m rails ++ with_rails (drop m rails) place old highs lows
with_later rails m place old highs lows =
    let end : (m + place) + (old + old) ≡ m + (place + (old + old)) = omega arith in
    ap₂ (λ (front rest : List Function). front ++ (highs ++ (lows ++ rest))) (take-add m place rails)
    (ap (λ (n : ℕ). drop n rails) end ∙ drop_both m (place + (old + old)) rails)
    ∙ append_assoc (take m rails) (take place (drop m rails)) (highs ++ (lows ++ drop (place + (old + old)) (drop m rails)))

-- behind the first function that is kept too
pub with_first : (own : Function) (others : List Function) (place old : ℕ) (highs lows : List Function) →
    with_rails (own ∷ others) (1 + place) old highs lows ≡ own ∷ with_rails others place old highs lows
with_first own others place old highs lows = with_later (own ∷ others) 1 place old highs lows

-- lists of rails for so many nodes
pub record IsPut (n : ℕ) (highs lows : List Function) : Type 0 where
  pub high : length highs ≡ n
  pub low : length lows ≡ n

module _ (n : ℕ) (highs lows : List Function) (put : IsPut n highs lows) (more : List Function) where
  highs_put : highs_of n (highs ++ (lows ++ more)) ≡ highs
  highs_put = take_at highs (lows ++ more) n put.high

  lows_put : lows_of n (highs ++ (lows ++ more)) ≡ lows
  lows_put = ap (λ (list : List Function). take n list) (drop_at highs (lows ++ more) n put.high) ∙ take_at lows more n put.low

  new_rest : rest_of n (highs ++ (lows ++ more)) ≡ more
  new_rest = ap (λ (list : List Function). drop n list) (drop_at highs (lows ++ more) n put.high) ∙ drop_at lows more n put.low

  -- their states in a column
  pub states_put : (symbols : Symbols) (column : ℕ) →
      states_kept symbols n (highs ++ (lows ++ more)) column ≡ columns.states_in (function_holds symbols) column highs lows
  states_put symbols column = ap₂ (λ (one other : List Function). columns.states_in (function_holds symbols) column one other) highs_put lows_put

-- rails of states may be kept, whatever is behind them
pub kept_put : (symbols : Symbols) (count n : ℕ) (highs lows : List Function) → IsPut n highs lows → n ≤ count → RAILS ≤ n →
    AreColumns (columns_in symbols) (function_holds symbols) highs lows →
    ((column : ℕ) → column < columns_in symbols → IsSound (columns.states_in (function_holds symbols) column highs lows)) → (more : List Function) →
    IsKept symbols count n (highs ++ (lows ++ more))
kept_put symbols count n highs lows put few railed rails sound more = record {
  few = few;
  railed = railed;
  counted = omega (arith, put.high, put.low, length-append highs (lows ++ more), length-append lows more);
  rails = subst (λ (one : List Function). AreColumns (columns_in symbols) (function_holds symbols) one (lows_of n (highs ++ (lows ++ more))))
      (sym (highs_put n highs lows put more))
      (subst (λ (other : List Function). AreColumns (columns_in symbols) (function_holds symbols) highs other) (sym (lows_put n highs lows put more)) rails);
  sound = λ column inside. subst IsSound (sym (states_put n highs lows put more symbols column)) (sound column inside);
}

module _ (symbols : Symbols) (count : ℕ) where
  -- rails are kept whatever is behind them
  front_kept : (n : ℕ) (rails more : List Function) → IsKept symbols count n rails → IsKept symbols count n (take (n + n) rails ++ more)
  front_kept n rails more is =
      let high : highs_of n (take (n + n) rails ++ more) ≡ highs_of n rails = take_within n (n + n) rails more (omega arith) is.counted in
      let long : length (take n (drop n rails)) ≡ n = length-take-le n (drop n rails) (length-dropped n n rails is.counted) in
      let low : lows_of n (take (n + n) rails ++ more) ≡ lows_of n rails =
      ap (λ (list : List Function). take n list) (drop_within n n rails more is.counted) ∙ take_at (take n (drop n rails)) more n long in
      record {
        few = is.few;
        railed = is.railed;
        counted = omega (arith, length-take-le (n + n) rails is.counted, length-append (take (n + n) rails) more);
        rails = rw (high, low) is.rails;
        sound = λ column inside. rw (high, low) (is.sound column inside);
      }

  -- and these are what is behind them
  front_rest : (n : ℕ) (rails more : List Function) → n + n ≤ length rails → rest_of n (take (n + n) rails ++ more) ≡ more
  front_rest n rails more counted =
      let long : length (take n (drop n rails)) ≡ n = length-take-le n (drop n rails) (length-dropped n n rails counted) in
      ap (λ (list : List Function). drop n list) (drop_within n n rails more counted) ∙ drop_at (take n (drop n rails)) more n long

  -- in a column their states are the same
  front_states : (n : ℕ) (rails more : List Function) → n + n ≤ length rails → (column : ℕ) →
      states_kept symbols n (take (n + n) rails ++ more) column ≡ states_kept symbols n rails column
  front_states n rails more counted column =
      let long : length (take n (drop n rails)) ≡ n = length-take-le n (drop n rails) (length-dropped n n rails counted) in
      ap₂ (λ (one other : List Function). columns.states_in (function_holds symbols) column one other) (take_within n (n + n) rails more (omega arith) counted)
      (ap (λ (list : List Function). take n list) (drop_within n n rails more counted) ∙ take_at (take n (drop n rails)) more n long)

  module _ (name : List ℕ) (n : ℕ) (highs lows : List Function) (put : IsPut n highs lows) where
    -- the rails of all names are those of states still
    pub rails_saved : ((more : List Function) → IsKept symbols count n (highs ++ (lows ++ more))) → (saves : List Save) (rails : List Function) →
        AreKeptRails symbols count saves rails →
        AreKeptRails symbols count (with_name saves name n) (with_rails rails (kept_by (before_save saves name)) (nodes_under saves name) highs lows)
    rails_saved own [] rails none = (own (drop 0 rails), new_rest n highs lows put (drop 0 rails) ∙ none)
    rails_saved own (save ∷ saves) rails (here, rest) = by (is_named name save) (rails_saved own saves (rest_of save.1 rails) rest)
      where
        by : (test : Bool) →
            AreKeptRails symbols count (with_name saves name n)
            (with_rails (rest_of save.1 rails) (kept_by (before_save saves name)) (nodes_under saves name) highs lows) →
            AreKeptRails symbols count (if test then (name, n) ∷ saves else save ∷ with_name saves name n)
            (with_rails rails (kept_by (if test then [] else save ∷ before_save saves name)) (if test then save.1 else nodes_under saves name) highs lows)
        by true later =
            let behind = drop (0 + (save.1 + save.1)) rails in
            let end : 0 + (save.1 + save.1) ≡ save.1 + save.1 = omega arith in
            let stands : behind ≡ rest_of save.1 rails = ap (λ (k : ℕ). drop k rails) end ∙ drop_both save.1 save.1 rails in
            (own behind, subst (AreKeptRails symbols count saves) (sym (new_rest n highs lows put behind ∙ stands)) rest)
        by false later =
            let place = kept_by (before_save saves name) in
            let old = nodes_under saves name in
            let more = with_rails (drop (save.1 + save.1) rails) place old highs lows in
            let first : save.1 + (save.1 + place) ≡ (save.1 + save.1) + place = omega arith in
            let stands : with_rails rails (save.1 + (save.1 + place)) old highs lows ≡ take (save.1 + save.1) rails ++ more =
            ap (λ (at : ℕ). with_rails rails at old highs lows) first ∙ with_later rails (save.1 + save.1) place old highs lows in
            let next : AreKeptRails symbols count (with_name saves name n) more =
            subst (λ (list : List Function). AreKeptRails symbols count (with_name saves name n) (with_rails list place old highs lows))
            (sym (drop_both save.1 save.1 rails)) later in
            subst (λ (list : List Function). AreKeptRails symbols count (save ∷ with_name saves name n) list) (sym stands)
            (front_kept save.1 rails more here, subst (AreKeptRails symbols count (with_name saves name n)) (sym (front_rest save.1 rails more here.counted)) next)

    -- and in a column their states are kept under the name
    pub saves_saved : (column : ℕ) (saves : List Save) (rails : List Function) → AreKeptRails symbols count saves rails →
        saves_by symbols (with_name saves name n) (with_rails rails (kept_by (before_save saves name)) (nodes_under saves name) highs lows) column
        ≡ with_save (saves_by symbols saves rails column) name (columns.states_in (function_holds symbols) column highs lows)
    saves_saved column [] rails none =
        ap (λ (states : List Tern). (name, states) ∷ []) (states_put n highs lows put (drop 0 rails) symbols column)
    saves_saved column (save ∷ saves) rails (here, rest) = by (is_named name save) (saves_saved column saves (rest_of save.1 rails) rest)
      where
        by : (test : Bool) →
            saves_by symbols (with_name saves name n)
            (with_rails (rest_of save.1 rails) (kept_by (before_save saves name)) (nodes_under saves name) highs lows) column
            ≡ with_save (saves_by symbols saves (rest_of save.1 rails) column) name (columns.states_in (function_holds symbols) column highs lows) →
            saves_by symbols (if test then (name, n) ∷ saves else save ∷ with_name saves name n)
            (with_rails rails (kept_by (if test then [] else save ∷ before_save saves name)) (if test then save.1 else nodes_under saves name) highs lows) column
            ≡ (if test then (name, columns.states_in (function_holds symbols) column highs lows) ∷ saves_by symbols saves (rest_of save.1 rails) column
            else (save.0, states_kept symbols save.1 rails column)
            ∷ with_save (saves_by symbols saves (rest_of save.1 rails) column) name (columns.states_in (function_holds symbols) column highs lows))
        by true later =
            let behind = drop (0 + (save.1 + save.1)) rails in
            let end : 0 + (save.1 + save.1) ≡ save.1 + save.1 = omega arith in
            let stands : behind ≡ rest_of save.1 rails = ap (λ (k : ℕ). drop k rails) end ∙ drop_both save.1 save.1 rails in
            ap₂ (λ (states : List Tern) (others : List (List ℕ × List Tern)). (name, states) ∷ others) (states_put n highs lows put behind symbols column)
            (ap (λ (list : List Function). saves_by symbols saves list column) (new_rest n highs lows put behind ∙ stands))
        by false later =
            let place = kept_by (before_save saves name) in
            let old = nodes_under saves name in
            let named = with_name saves name n in
            let more = with_rails (drop (save.1 + save.1) rails) place old highs lows in
            let first : save.1 + (save.1 + place) ≡ (save.1 + save.1) + place = omega arith in
            let stands : with_rails rails (save.1 + (save.1 + place)) old highs lows ≡ take (save.1 + save.1) rails ++ more =
            ap (λ (at : ℕ). with_rails rails at old highs lows) first ∙ with_later rails (save.1 + save.1) place old highs lows in
            ap (λ (list : List Function). saves_by symbols (save ∷ named) list column) stands
            ∙ ap₂ (λ (states : List Tern) (others : List (List ℕ × List Tern)). (save.0, states) ∷ others) (front_states save.1 rails more here.counted column)
            (ap (λ (list : List Function). saves_by symbols named list column) (front_rest save.1 rails more here.counted)
            ∙ ap (λ (list : List Function). saves_by symbols named (with_rails list place old highs lows) column) (drop_both save.1 save.1 rails) ∙ later)
