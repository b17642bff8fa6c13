-- The lines of faults: if one was met, its code and word, and for a group that is too large
-- also which group it is and how large. Each line ends with LF.
use Rattle.std.specs.Prelude.{ℕ, List, [], ◌++◌, codes, decimal}
use Rattle.printed_lines.specs.declared.faults.FaultPlace.{FaultPlace}
use Rattle.printed_lines.specs.declared.faults.FaultPlace.TheVariants.{Net, NetWhole, Script, List as OfList, Node, Heard}
use Rattle.printed_lines.specs.declared.faults.FaultCode.{FaultCode}
use Rattle.printed_lines.specs.declared.faults.FaultCode.TheVariants.{L1LineTooLong, L2BadByte, N1BadRecord, N2FewWords, N3Format, N4TooLong, N5BadCaps, G1GroupNodes, G2GroupSwitches, E1UnknownNode, E2NoSuchSwitch, E3Rail, E4BadStrength, E5BadSize, E6AliasTaken, E7TooManyNodes, E8TooManySwitches, S1BadCommand, S2FewWords, S3ManyWords, S4BadValue, S5BadNumber, S6NotInput, S7NotStore, S8ClockLength, S9NoClock, S10TooManyWatched, S11TooLong, S12NameTaken, S13TooMany, S14VectorValue, S15TooManySaves, S16NoSave, S17LateWatch, S18NameDefined, S19TooManyVariables, F1BadFault, F2TooLong}

-- words with the number of a line: `<words><line>: `
abbrev pub numbered_of : List ℕ → ℕ → List ℕ
numbered_of words line = words ++ decimal line ++ codes ": "

-- the place of a fault: `net line <l>`, `net`, `script line <l>`, `list line <l>`, `node` or `line <l>`, and `: ` after it
abbrev pub place_of : FaultPlace → List ℕ
place_of (Net line) = numbered_of (codes "net line ") line
place_of NetWhole = codes "net: "
place_of (Script line) = numbered_of (codes "script line ") line
place_of (OfList line) = numbered_of (codes "list line ") line
place_of Node = codes "node: "
place_of (Heard line) = numbered_of (codes "line ") line

-- the text of a fault: its code and its word
abbrev pub text_of : FaultCode → List ℕ
text_of L1LineTooLong = codes "L1 LineTooLong"
text_of L2BadByte = codes "L2 BadByte"
text_of N1BadRecord = codes "N1 BadRecord"
text_of N2FewWords = codes "N2 FewWords"
text_of N3Format = codes "N3 Format"
text_of N4TooLong = codes "N4 TooLong"
text_of N5BadCaps = codes "N5 BadCaps"
text_of G1GroupNodes = codes "G1 GroupNodes"
text_of G2GroupSwitches = codes "G2 GroupSwitches"
text_of E1UnknownNode = codes "E1 UnknownNode"
text_of E2NoSuchSwitch = codes "E2 NoSuchSwitch"
text_of E3Rail = codes "E3 Rail"
text_of E4BadStrength = codes "E4 BadStrength"
text_of E5BadSize = codes "E5 BadSize"
text_of E6AliasTaken = codes "E6 AliasTaken"
text_of E7TooManyNodes = codes "E7 TooManyNodes"
text_of E8TooManySwitches = codes "E8 TooManySwitches"
text_of S1BadCommand = codes "S1 BadCommand"
text_of S2FewWords = codes "S2 FewWords"
text_of S3ManyWords = codes "S3 ManyWords"
text_of S4BadValue = codes "S4 BadValue"
text_of S5BadNumber = codes "S5 BadNumber"
text_of S6NotInput = codes "S6 NotInput"
text_of S7NotStore = codes "S7 NotStore"
text_of S8ClockLength = codes "S8 ClockLength"
text_of S9NoClock = codes "S9 NoClock"
text_of S10TooManyWatched = codes "S10 TooManyWatched"
text_of S11TooLong = codes "S11 TooLong"
text_of S12NameTaken = codes "S12 NameTaken"
text_of S13TooMany = codes "S13 TooMany"
text_of S14VectorValue = codes "S14 VectorValue"
text_of S15TooManySaves = codes "S15 TooManySaves"
text_of S16NoSave = codes "S16 NoSave"
text_of S17LateWatch = codes "S17 LateWatch"
text_of S18NameDefined = codes "S18 NameDefined"
text_of S19TooManyVariables = codes "S19 TooManyVariables"
text_of F1BadFault = codes "F1 BadFault"
text_of F2TooLong = codes "F2 TooLong"

-- a group that is too large: ` <name> <count>`
abbrev pub group_of : List ℕ → ℕ → List ℕ
group_of name count = codes " " ++ name ++ codes " " ++ decimal count

-- what follows on a fault's text: the group if it is too large, else nothing
abbrev pub detail_of : FaultCode → List ℕ → ℕ → List ℕ
detail_of G1GroupNodes name count = group_of name count
detail_of G2GroupSwitches name count = group_of name count
detail_of _ name count = []

-- the line of a fault: its place, its text, and what follows on that
abbrev pub fault_line_of : FaultPlace → FaultCode → List ℕ → ℕ → List ℕ
fault_line_of place code name count =
    place_of place ++ text_of code ++ detail_of code name count ++ codes "\n"
