-- The codes under which faults of netlists are printed.
use Rattle.sim_read.specs.declared.fault.NetWhat.{NetWhat}
use Rattle.sim_read.specs.declared.fault.NetWhat.TheVariants as net
use Rattle.printed_lines.specs.declared.faults.FaultCode.{FaultCode}
use Rattle.printed_lines.specs.declared.faults.FaultCode.TheVariants as code

-- of a refused line of a netlist
abbrev pub net_code : NetWhat → FaultCode
net_code net.LineTooLong = code.L1LineTooLong
net_code net.BadByte = code.L2BadByte
net_code net.BadRecord = code.N1BadRecord
net_code net.FewWords = code.N2FewWords
net_code net.Format = code.N3Format
net_code net.BadCaps = code.N5BadCaps
net_code net.TooLong = code.N4TooLong
net_code net.BadStrength = code.E4BadStrength
net_code net.BadSize = code.E5BadSize
net_code net.AliasTaken = code.E6AliasTaken
net_code net.TooManyNodes = code.E7TooManyNodes
net_code net.TooManySwitches = code.E8TooManySwitches
