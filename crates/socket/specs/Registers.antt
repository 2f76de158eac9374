-- The command register of a simulated chip, in the words of the rules.
use Rattle.std.specs.Prelude.{ℕ, Bool}
use Rattle.chip.specs.Rules.{Register, ended, after_reset, resets, chosen}
use Rattle.chip.specs.declared.state.Voltage.{Voltage}
use Rattle.socket.specs.declared.register.CommandRegister.{CommandRegister}
use Rattle.chip.specs.declared.state.Voltage.TheVariants.{Low}
use Rattle.chip.specs.declared.state.Mode.TheVariants.{Read}

abbrev pub kept : CommandRegister → Register
kept r = record { marks = r.marks; voltage = r.voltage; mode = r.mode }

-- Low voltage, Read, every mark 0.
abbrev pub fresh : Register
fresh = record {
  marks = record {
    tallies = record { program = 0; erase = 0; short = 0; hard = 0 };
    turn = record { place = 0; length = 0; longest = 0 };
    run = record { length = 0; longest = 0 };
  };
  voltage = Low;
  mode = Read;
}

-- What a write at high voltage does, in two parts: it ends a pulse, and it takes a command. Setting the voltage ends a pulse too.
abbrev pub pulse_ended : ℕ → Bool → Register → Register
pulse_ended n zeroed r = record { marks = ended n zeroed r.mode r.marks; voltage = r.voltage; mode = r.mode }

abbrev pub told : ℕ → ℕ → ℕ → Register → Register
told n a b r = record { marks = after_reset (resets r.mode b) r.marks; voltage = r.voltage; mode = chosen n a b r.mode }

abbrev pub powered : Voltage → Register → Register
powered v r = record { marks = r.marks; voltage = v; mode = Read }
