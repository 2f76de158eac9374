-- The bytes that stand for commands.
use Rattle.std.specs.Prelude.{◌≡◌, ◌≢◌, ℕ, Ok, Err, Result}
use Rattle.chip.specs.declared.command.Command.{Command}
use Rattle.chip.specs.declared.command.Command.TheVariants.{Read, Sign, Erase, Program, EraseVerify, ProgramVerify, Reset}
use Rattle.chip.specs.declared.command.NoCommand.{NoCommand}

abbrev pub byte_of : Command → ℕ
byte_of Read = 0x00
byte_of Sign = 0x90
byte_of Erase = 0x20
byte_of Program = 0x40
byte_of EraseVerify = 0xA0
byte_of ProgramVerify = 0xC0
byte_of Reset = 0xFF

-- The byte b stands for the command r, or for none.
abbrev pub Stands : ℕ → Result Command NoCommand → Type 0
Stands b (Ok c) = b ≡ byte_of c
Stands b (Err e) = (e.0 ≡ b) × (b ≢ 0x00) × (b ≢ 0x90) × (b ≢ 0x20) × (b ≢ 0x40) × (b ≢ 0xA0) × (b ≢ 0xC0) × (b ≢ 0xFF)
