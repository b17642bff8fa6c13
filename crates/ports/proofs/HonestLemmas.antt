-- Ports in memory: where a name's entry lies, and what a read takes.
use Rattle.std.proofs.Common.{◌≡◌, ℕ, ◌≤◌, Bool, true, false, cond, List, length, Option, None, Some, refl, sym, ap, ◌∙◌, arith}
use Rattle.std.specs.Prelude.{position, slice_get, nat_lt}
use Rattle.std.specs.List.{position_or_len}
use Rattle.std.proofs.lemmas.Bool.Decides.{nat_tests}
use Rattle.std.proofs.lemmas.List.Folds.{find_at}
use Rattle.std.proofs.lemmas.Option.{slice_get_past}
use Rattle.ports.specs.HonestPorts.{Table, HonestFilesData, has_name, held, bytes_of, bytes_at}

-- a place that is dropped unless it is inside the table has the bytes that lie there
bytes_at-tested : (table : Table) (place : ℕ) (inside : Bool) → nat_lt place (length table) ≡ inside → bytes_at table (cond inside (Some place) None) ≡ bytes_of (slice_get table place)
bytes_at-tested table place true test = refl
bytes_at-tested table place false test =
    let past : length table ≤ place = grind (arith, nat_tests) in ap bytes_of (sym (slice_get_past table place past))

-- the entry at the first place of a name holds what the name holds
bytes_at-position : (table : Table) (name : List ℕ) → bytes_at table (position (has_name name) table) ≡ held table name
bytes_at-position table name =
    let place : ℕ = position_or_len (has_name name) table in
    bytes_at-tested table place (nat_lt place (length table)) refl ∙ ap bytes_of (sym (find_at (has_name name) table))

-- the bytes of the place that was found are what the name holds, in the same table
pub held_at_place : (table searched seen : Table) (name : List ℕ) (place : Option ℕ) → place ≡ position (has_name name) searched → searched ≡ table → table ≡ seen → bytes_at table place ≡ held seen name
held_at_place table searched seen name place found same_searched same_seen =
    ap (bytes_at table) (found ∙ ap (position (has_name name)) same_searched) ∙ bytes_at-position table name ∙ ap (λ entries. held entries name) same_seen

-- files of which only what is left changed
pub with_rest : (before seen : HonestFilesData) (rest wanted : List ℕ) → before ≡ seen → rest ≡ wanted → record before { rest = rest } ≡ record seen { rest = wanted }
with_rest before seen rest wanted same is = ap (λ (bytes : List ℕ). record before { rest = bytes }) is ∙ ap (λ (files : HonestFilesData). record files { rest = wanted }) same
