-- What an onlooker sees of a script: each line adds its steps and phases and the state behind it, and all lines show one list of views.
use Rattle.std.proofs.Common.{◌≡◌, ℕ, inl, inr, List, [], ◌∷◌, ◌++◌, map, Option, Ok, refl, sym, ap, subst, ◌∙◌, append_assoc, append-nil}
use Rattle.ternary.specs.declared.tern.Tern.{Tern}
use Rattle.settling.specs.Passes.{Pass, View, Passed, Stands, see_pass, see_passes, look_all}
use Rattle.group_text.specs.Texts.{GroupTextData}
use Rattle.told_lines.specs.Lines.{Line, Told}
use Rattle.session_meaning.specs.Sessions.{SessionData}
use Rattle.session_meaning.proofs.PassingLemmas.{passes_unique}
use Rattle.script_meaning.specs.declared.turn.Turn.{Turn}
use Rattle.script_meaning.specs.declared.turn.Turn.TheVariants.{Accepted}
use Rattle.script_meaning.specs.Runs.{Reading}
use Rattle.script_meaning.specs.Turns.{TakesTurn}
use Rattle.script_meaning.specs.FirstRefused.{IsObeyed}
use Rattle.script_meaning.specs.FirstRefused.IsObeyed.{idle, done}
use Rattle.script_meaning.specs.Shown.{LinePasses, Shows, SeesAll, SeesLine}
use Rattle.script_meaning.specs.Shown.LinePasses.{nothing, by_command}
use Rattle.script_meaning.specs.Shown.Shows.{no_line, one_more}
use Rattle.script_meaning.specs.Laws.{ScriptsShowOneList}
use Rattle.script_meaning.proofs.UniqueRuns.{obeyed_unique}

-- ---- views

-- the views of a line
abbrev views_of : List Pass → List Tern → List View
views_of passes state = map Passed passes ++ Stands state ∷ []

module _ {S : Type 0} (begin see : S → List Tern → S) (rest : S → ℕ → S) where
  -- what is seen of two lists is what is seen of the second after the first
  look_all-append : (before : S) (front back : List View) →
      look_all begin see rest before (front ++ back) ≡ look_all begin see rest (look_all begin see rest before front) back
  look_all-append before [] back = refl
  look_all-append before (Passed pass ∷ front) back = look_all-append (see_pass begin see rest before pass) front back
  look_all-append before (Stands state ∷ front) back = look_all-append (see before state) front back

  -- of the views of a line its steps and phases are seen, and then the state
  look_all-line : (before : S) (passes : List Pass) (state : List Tern) →
      look_all begin see rest before (views_of passes state) ≡ see (see_passes begin see rest before passes) state
  look_all-line before [] state = refl
  look_all-line before (pass ∷ passes) state = look_all-line (see_pass begin see rest before pass) passes state

-- ---- so far

-- what was shown so far, which what the lines from here show goes on from
pub record HasShown {S : Type 0} (begin see : S → List Tern → S) (rest : S → ℕ → S) (reading : Reading) (cut : Option ℕ) (start : SessionData)
    (all : List (ℕ × List ℕ)) (before : S) (now : SessionData) (left : List (ℕ × List ℕ)) (after : S) : Type 0 where
  pub shown : List View
  pub seen : after ≡ look_all begin see rest before shown
  pub goes_on : (end : SessionData) (more : List View) → Shows reading cut now left end more → Shows reading cut start all end (shown ++ more)

module _ {S : Type 0} {begin see : S → List Tern → S} {rest : S → ℕ → S} {reading : Reading} {cut : Option ℕ} {start : SessionData}
    {all : List (ℕ × List ℕ)} {before : S} where
  -- at the start nothing was
  pub shown_first : HasShown begin see rest reading cut start all before start all before
  shown_first = record { shown = []; seen = refl; goes_on = λ end more shows. shows }

  -- the lines that are left, in other words
  pub shown_to : {now : SessionData} {left others : List (ℕ × List ℕ)} {after : S} →
      HasShown begin see rest reading cut start all before now left after → left ≡ others →
      HasShown begin see rest reading cut start all before now others after
  shown_to {now = now} {after = after} come same =
      subst (λ lines. HasShown begin see rest reading cut start all before now lines after) same come

  -- to the end
  pub shown_end : {now : SessionData} {after : S} {cuts : Option ℕ} → HasShown begin see rest reading cut start all before now [] after → cut ≡ cuts →
      SeesAll begin see rest reading cuts start all now before after
  shown_end {now = now} {after = after} come same =
      subst (λ at. SeesAll begin see rest reading at start all now before after) same
      (record {
        shown = come.shown ++ [];
        shows = come.goes_on now [] (no_line now);
        seen = come.seen ∙ ap (look_all begin see rest before) (sym (append-nil come.shown));
      })

  -- past a line that is obeyed, and the state behind it
  module _ (now new : SessionData) {line : ℕ × List ℕ} {left : List (ℕ × List ℕ)} {mid : S}
      (come : HasShown begin see rest reading cut start all before now (line ∷ left) mid) (after : S)
      (sees : SeesLine begin see rest reading cut now line new.state mid after) where
    shown_past : (wrote : List Line) (texts : List GroupTextData) → IsObeyed reading cut now line new wrote texts →
        HasShown begin see rest reading cut start all before new left after
    shown_past wrote texts obeys =
        let front : List View = map Passed sees.passes in
        let here : List View = views_of sees.passes new.state in
        let behind : (more : List View) → come.shown ++ (front ++ Stands new.state ∷ more) ≡ (come.shown ++ here) ++ more =
        λ more. ap (λ (views : List View). come.shown ++ views) (sym (append_assoc front (Stands new.state ∷ []) more))
        ∙ sym (append_assoc come.shown here more) in
        record {
          shown = come.shown ++ here;
          seen = sees.seen ∙ ap (λ (s : S). see (see_passes begin see rest s sees.passes) new.state) come.seen
              ∙ sym (look_all-line begin see rest (look_all begin see rest before come.shown) sees.passes new.state)
              ∙ sym (look_all-append begin see rest before come.shown here);
          goes_on = λ end more others. subst (Shows reading cut start all end) (behind more)
              (come.goes_on end (front ++ Stands new.state ∷ more)
              (one_more now new end line left wrote texts sees.passes more obeys sees.through others));
        }

  -- past a line that is accepted
  module _ {H : Type 0} (hear : H → Told → H) (part : H → Told → H → Type 0) (now new : SessionData) (heard more : H) (asked told : List GroupTextData)
      {line : ℕ × List ℕ} {left : List (ℕ × List ℕ)} {mid : S}
      (come : HasShown begin see rest reading cut start all before now (line ∷ left) mid) (after : S)
      (sees : SeesLine begin see rest reading cut now line new.state mid after) where
    shown_accepted : TakesTurn hear part reading cut line now new heard more asked told (Ok Accepted) →
        HasShown begin see rest reading cut start all before new left after
    shown_accepted (inl passed) =
        subst (λ (session : SessionData). HasShown begin see rest reading cut start all before session left after) (sym passed.keeps.same)
        (shown_past now now come after
        (subst (λ (session : SessionData). SeesLine begin see rest reading cut now line session.state mid after) passed.keeps.same sees)
        [] [] (idle passed.idle))
    shown_accepted (inr follows) =
        let accepts = follows.accepts in
        shown_past now new come after sees accepts.lines accepts.texts
        (done follows.command new accepts.lines accepts.texts follows.asks accepts.performs)

    pub shown_on : {turn : Turn} → TakesTurn hear part reading cut line now new heard more asked told (Ok turn) → turn ≡ Accepted →
        HasShown begin see rest reading cut start all before new left after
    shown_on takes is = shown_accepted (subst (λ one. TakesTurn hear part reading cut line now new heard more asked told (Ok one)) is takes)

-- ---- one list

-- a line has one list of steps and phases
line_unique : {reading : Reading} {cut : Option ℕ} {old : SessionData} {line : ℕ × List ℕ} {passes other : List Pass} →
    LinePasses reading cut old line passes → LinePasses reading cut old line other → passes ≡ other
line_unique (nothing is) (nothing also) = refl
line_unique (nothing is) (by_command command passes asks through) = absurd (cc (is.nothing, asks.asked))
line_unique (by_command command passes asks through) (nothing is) = absurd (cc (is.nothing, asks.asked))
line_unique {old = old} (by_command command passes asks through) (by_command further other asked beyond) =
    let same : further ≡ command = cc (asks.asked, asked.asked) in
    passes_unique old command passes other through (rw same at beyond)

-- so all lines show one
shown_unique : {reading : Reading} {cut : Option ℕ} {start new other : SessionData} {lines : List (ℕ × List ℕ)} {shown more : List View} →
    Shows reading cut start lines new shown → Shows reading cut start lines other more → shown ≡ more
shown_unique (no_line session) (no_line _) = refl
shown_unique {reading} {cut} (one_more old mid new line lines wrote texts passes more obeys through later)
    (one_more _ next other _ _ tells others besides rest obeyed beyond further) =
    let here : mid ≡ next = (obeyed_unique reading cut old mid next line wrote tells texts others obeys obeyed).end in
    let last : more ≡ rest = shown_unique later (subst (λ (at : SessionData). Shows reading cut at lines other rest) (sym here) further) in
    ap (λ (front : List Pass). map Passed front ++ Stands mid.state ∷ more) (line_unique through beyond)
    ∙ ap (λ (at : SessionData). map Passed besides ++ Stands at.state ∷ more) here
    ∙ ap (λ (back : List View). map Passed besides ++ Stands next.state ∷ back) last

pub shows_unique : ScriptsShowOneList
shows_unique reading cut start lines new other shown more one two = shown_unique one two
