-- Bytes that all may stand in a name are one, if there is one at least.
use Rattle.std.proofs.Common.{◌<◌, length, sym, ◌∙◌, arith}
use Rattle.std.proofs.lemmas.List.Sums.{AllPass-from_list_all, list_all-from_AllPass}
use Rattle.formulas.specs.Bytes.{is_name_byte}
use Rattle.formulas.proofs.bytes.is_name.Goals as goal

pub returns-then-not-is_empty-clause-name : goal.returns-then-not-is_empty-clause-name
returns-then-not-is_empty-clause-name c =
    let bytes = c.args.bytes.now in
    let some : 0 < length bytes = grind arith in (
      λ passes. record { some = some; plain = AllPass-from_list_all is_name_byte bytes (sym c.are_name_bytes.ensures ∙ passes) },
      λ name. c.are_name_bytes.ensures ∙ list_all-from_AllPass is_name_byte bytes name.plain,
    )
