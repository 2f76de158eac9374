-- What every run of every lawful chip keeps. None of this is a rule: all of it follows from the rules.
use Rattle.std.specs.Prelude.{◌≡◌, ℕ, suc, ◌+◌, ◌%◌, ◌^◌, ◌<◌, ◌≤◌, cond, List, [], ◌∷◌, nat_lt}
use Rattle.chip.specs.Rules.{Cycle, write, read, sign, wait, supply, Meaning, Ordered, Within, Strike, none, program, erase, pulse, strike, mode_after, voltage_after}
use Rattle.chip.specs.Runs.{Ran}
use Rattle.chip.specs.declared.state.Voltage.{Voltage}
use Rattle.chip.specs.declared.state.Voltage.TheVariants.{Low, High}
use Rattle.chip.specs.declared.state.Mode.{Mode}
use Rattle.chip.specs.declared.state.Mode.TheVariants.{Read, Sign, Idle, ProgramSetup, Programming, ProgramVerify, EraseSetup, Erasing, EraseVerify}
use Rattle.chip.specs.declared.state.Marks.{Marks}

-- The write cycles of a run that come at high voltage, by the voltage that it began with.
abbrev pub high_writes : Voltage → List Cycle → ℕ
high_writes u [] = 0
high_writes Low (write a b ∷ cs) = high_writes Low cs
high_writes High (write a b ∷ cs) = suc (high_writes High cs)
high_writes u (read a v ∷ cs) = high_writes u cs
high_writes u (sign c v ∷ cs) = high_writes u cs
high_writes u (wait w ∷ cs) = high_writes u cs
high_writes u (supply v ∷ cs) = high_writes v cs

-- The pulses that a run ends, in order, by the voltage and the mode that it began with.
pub data Pulse : Type 0 where
  too_short : Pulse
  full_program : Pulse
  full_erase : Pulse

abbrev pub closing : Mode → List Pulse → List Pulse
closing Read ps = ps
closing Sign ps = ps
closing Idle ps = ps
closing ProgramSetup ps = ps
closing (Programming p d t) ps = cond (nat_lt t 10) too_short full_program ∷ ps
closing (ProgramVerify p t) ps = ps
closing EraseSetup ps = ps
closing (Erasing t) ps = cond (nat_lt t 10000) too_short full_erase ∷ ps
closing (EraseVerify p t) ps = ps

abbrev pub closes : Cycle → Voltage → Mode → List Pulse → List Pulse
closes (write a b) Low m ps = ps
closes (write a b) High m ps = closing m ps
closes (read a v) u m ps = ps
closes (sign c v) u m ps = ps
closes (wait w) u m ps = ps
closes (supply v) u m ps = closing m ps

abbrev pub pulses : ℕ → Voltage → Mode → List Cycle → List Pulse
pulses n u m [] = []
pulses n u m (c ∷ cs) = closes c u m (pulses n (voltage_after c u) (mode_after n c u m) cs)

abbrev pub programs : List Pulse → ℕ
programs [] = 0
programs (too_short ∷ ps) = programs ps
programs (full_program ∷ ps) = suc (programs ps)
programs (full_erase ∷ ps) = programs ps

abbrev pub erases : List Pulse → ℕ
erases [] = 0
erases (too_short ∷ ps) = erases ps
erases (full_program ∷ ps) = erases ps
erases (full_erase ∷ ps) = suc (erases ps)

abbrev pub shorts : List Pulse → ℕ
shorts [] = 0
shorts (too_short ∷ ps) = suc (shorts ps)
shorts (full_program ∷ ps) = shorts ps
shorts (full_erase ∷ ps) = shorts ps

-- The strikes of a run, one for each cycle, full pulses' and short ones'.
abbrev pub strikes : ℕ → Voltage → Mode → List Cycle → List Strike
strikes n u m [] = []
strikes n u m (c ∷ cs) = strike n c u m ∷ strikes n (voltage_after c u) (mode_after n c u m) cs

abbrev pub NoErase : List Strike → Type 0
NoErase [] = Unit {0}
NoErase (none ∷ fs) = NoErase fs
NoErase (program p d ∷ fs) = NoErase fs
NoErase (erase ∷ fs) = ⊥

abbrev pub NoProgram : List Strike → Type 0
NoProgram [] = Unit {0}
NoProgram (none ∷ fs) = NoProgram fs
NoProgram (program p d ∷ fs) = ⊥
NoProgram (erase ∷ fs) = NoProgram fs

-- At every place of s the chip t shows the same bytes, or no bit more.
pub record Same (s t : Meaning) : Type 0 where
  pub E : (a : ℕ) → a < s.size → t.E a ≡ s.E a
  pub R : (a : ℕ) → a < s.size → t.R a ≡ s.R a
  pub P : (a : ℕ) → a < s.size → t.P a ≡ s.P a

pub record Below (n : ℕ) (s t : Meaning) : Type 0 where
  pub E : (a : ℕ) → a < n → Within (s.E a) (t.E a)
  pub R : (a : ℕ) → a < n → Within (s.R a) (t.R a)
  pub P : (a : ℕ) → a < n → Within (s.P a) (t.P a)

-- The longest turn and the longest run never fall, and are never below the lengths that they are the longest of.
pub record Longest (k l : Marks) : Type 0 where
  pub turn_grows : k.turn.longest ≤ l.turn.longest
  pub run_grows : k.run.longest ≤ l.run.longest
  pub turn_covers : k.turn.length ≤ k.turn.longest → l.turn.length ≤ l.turn.longest
  pub run_covers : k.run.length ≤ k.run.longest → l.run.length ≤ l.run.longest

-- A run from s to t by the cycles cs.
pub record Kept (s : Meaning) (cs : List Cycle) (t : Meaning) : Type 0 where
  -- size and signature never change
  pub size : t.size ≡ s.size
  pub maker : t.maker ≡ s.maker
  pub device : t.device ≡ s.device
  -- the margins stay ordered
  pub ordered : Ordered s → Ordered t
  -- each tally grows by one, modulo 2^64, for each pulse of its kind that ended
  pub program_tally : t.register.marks.tallies.program % 2 ^ 64 ≡ (s.register.marks.tallies.program + programs (pulses s.size s.register.voltage s.register.mode cs)) % 2 ^ 64
  pub erase_tally : t.register.marks.tallies.erase % 2 ^ 64 ≡ (s.register.marks.tallies.erase + erases (pulses s.size s.register.voltage s.register.mode cs)) % 2 ^ 64
  pub short_tally : t.register.marks.tallies.short % 2 ^ 64 ≡ (s.register.marks.tallies.short + shorts (pulses s.size s.register.voltage s.register.mode cs)) % 2 ^ 64
  -- the hard tally by at most one for each full erase pulse
  pub hard_tally : (h : ℕ) × (h ≤ erases (pulses s.size s.register.voltage s.register.mode cs)) × (t.register.marks.tallies.hard % 2 ^ 64 ≡ (s.register.marks.tallies.hard + h) % 2 ^ 64)
  pub longest : Longest s.register.marks t.register.marks
  -- where no pulse was open, a run with no write at high voltage moves no cell
  pub still : pulse s.size s.register.mode ≡ none → high_writes s.register.voltage cs ≡ 0 → Same s t
  -- without an erase strike no bit is set, without a program strike none is cleared
  pub falls : NoErase (strikes s.size s.register.voltage s.register.mode cs) → Below s.size t s
  pub rises : NoProgram (strikes s.size s.register.voltage s.register.mode cs) → Below s.size s t

abbrev pub Keeps : {C : Type 0} → (C → Cycle → C → Type 0) → (C → Meaning) → C → Type 0
Keeps {C} takes meaning s = (cs : List Cycle) (t : C) → Ran takes s cs t → Kept (meaning s) cs (meaning t)
