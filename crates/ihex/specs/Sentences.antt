-- What is said of a refusal.
use Rattle.std.specs.Prelude.{ℕ, List, ◌++◌, codes, decimal}
use Rattle.ihex.specs.declared.fault.Reason.{Reason}
use Rattle.ihex.specs.declared.fault.Reason.TheVariants.{MissingColon, NotADigit, WrongLength, WrongSum, UnknownType, OutOfRange, OutOfOrder, MissingEnd, AfterEnd, TooLong}
use Rattle.ihex.specs.declared.fault.HexFault.{HexFault}
use Rattle.ihex.specs.Faults.{refusal_number}

abbrev pub sentence_of : Reason → List ℕ
sentence_of MissingColon = codes "the line does not begin with a colon"
sentence_of NotADigit = codes "this byte is not a hexadecimal digit"
sentence_of WrongLength = codes "the line has fewer than 10 digits, or not 10 and 2 for each byte that it counts"
sentence_of WrongSum = codes "the bytes of the line do not add up to 0 modulo 256"
sentence_of UnknownType = codes "the type is neither 00 (data) nor 01 (end), or an end line counts bytes"
sentence_of OutOfRange = codes "the data reaches past the end of the image"
sentence_of OutOfOrder = codes "the data begins below the end of the data line before it"
sentence_of MissingEnd = codes "the text stops without an end line"
sentence_of AfterEnd = codes "bytes follow the end line"
sentence_of TooLong = codes "the text is longer than 1048576 bytes, or the image than 32768"

-- number, line and position, and what is wrong
abbrev pub fault_text : HexFault → List ℕ
fault_text e =
    codes "refusal " ++ (decimal (refusal_number e.reason) ++ (codes " at line " ++ (decimal e.line ++ (codes ", position " ++ (decimal e.position ++ (codes ": " ++ sentence_of e.reason))))))
