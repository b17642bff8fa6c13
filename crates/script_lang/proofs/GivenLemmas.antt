-- What a command was made of: what holds of all that is made so holds of it.
use Rattle.std.proofs.Common.{◌≡◌, ℕ, List, [], ◌∷◌, Result, Ok, Err, refl, subst}
use Rattle.script_lang.specs.declared.command.Command.{Command}
use Rattle.script_lang.specs.declared.command.Edit.{Edit}
use Rattle.script_lang.specs.declared.command.ScriptFault.{ScriptFault}
use Rattle.script_lang.specs.Commands.{alone, by_pair, by_terminals, commanded, commanded_by}

-- what it was made of, if it was
pub made_of : {X Y : Type 0} (command : X → Y) (given : Result X ScriptFault) (made : Y) →
    commanded command given ≡ Ok made → (x : X) × (given ≡ Ok x) × (command x ≡ made)
made_of command (Ok x) made is = (x, refl, cc)
made_of command (Err fault) made is = cc

pub holds_of : {X Y : Type 0} (P : Y → Type 0) (command : X → Y) (given : Result X ScriptFault) (made : Y) →
    ((x : X) → given ≡ Ok x → P (command x)) → commanded command given ≡ Ok made → P made
holds_of P command given made each is =
    let of = made_of command given made is in subst P of.2 (each of.0 of.1)

-- the same of a command of a family
pub holds_in : {X Y : Type 0} (P : Command → Type 0) (whole : Y → Command) (command : X → Y) (given : Result X ScriptFault) (made : Command) →
    ((x : X) → given ≡ Ok x → P (whole (command x))) → commanded whole (commanded command given) ≡ Ok made → P made
holds_in P whole command given made each is =
    holds_of P whole (commanded command given) made (λ one of. holds_of (λ y. P (whole y)) command given one each of) is

-- of what was made of two things
pub holds_of_two : {X Y Z : Type 0} (P : Z → Type 0) (command : X → Y → Z) (first : Result X ScriptFault) (second : Result Y ScriptFault) (made : Z) →
    ((x : X) (y : Y) → P (command x y)) → commanded_by command first second ≡ Ok made → P made
holds_of_two P command (Ok x) (Ok y) made each is = subst P (let same : command x y ≡ made = cc in same) (each x y)
holds_of_two P command (Ok x) (Err fault) made each is = cc
holds_of_two P command (Err fault) second made each is = cc

-- and of what is given nothing
pub holds_alone : (P : Command → Type 0) (command : Command) (words : List (List ℕ)) (made : Command) → P command → alone command words ≡ Ok made → P made
holds_alone P command [] made holds is = subst P (let same : command ≡ made = cc in same) holds
holds_alone P command (word ∷ words) made holds is = cc

-- two words
pub record OfPair (command : List ℕ → List ℕ → Result Edit ScriptFault) (words : List (List ℕ)) (made : Edit) : Type 0 where
  pub one : List ℕ
  pub other : List ℕ
  pub are : words ≡ one ∷ other ∷ []
  pub makes : command one other ≡ Ok made

pub pair_given : (command : List ℕ → List ℕ → Result Edit ScriptFault) (words : List (List ℕ)) (made : Edit) →
    by_pair command words ≡ Ok made → OfPair command words made
pair_given command [] made is = cc
pair_given command (one ∷ []) made is = cc
pair_given command (one ∷ other ∷ []) made is = record { one = one; other = other; are = refl; makes = is }
pair_given command (one ∷ other ∷ more ∷ words) made is = cc

-- a word, three names and what comes behind
pub record OfTerminals (command : List ℕ → List ℕ → List ℕ → List ℕ → List (List ℕ) → Result Edit ScriptFault) (words : List (List ℕ)) (made : Edit) :
    Type 0 where
  pub word : List ℕ
  pub gate : List ℕ
  pub source : List ℕ
  pub drain : List ℕ
  pub rest : List (List ℕ)
  pub are : words ≡ word ∷ gate ∷ source ∷ drain ∷ rest
  pub makes : command word gate source drain rest ≡ Ok made

pub terminals_given : (command : List ℕ → List ℕ → List ℕ → List ℕ → List (List ℕ) → Result Edit ScriptFault) (words : List (List ℕ)) (made : Edit) →
    by_terminals command words ≡ Ok made → OfTerminals command words made
terminals_given command [] made is = cc
terminals_given command (word ∷ []) made is = cc
terminals_given command (word ∷ gate ∷ []) made is = cc
terminals_given command (word ∷ gate ∷ source ∷ []) made is = cc
terminals_given command (word ∷ gate ∷ source ∷ drain ∷ rest) made is =
    record { word = word; gate = gate; source = source; drain = drain; rest = rest; are = refl; makes = is }
