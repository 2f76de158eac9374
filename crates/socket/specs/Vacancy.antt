-- An empty socket keeps the rules.
use Rattle.std.specs.Prelude.{ℕ, ◌≡◌, refl, false}
use Rattle.std.proofs.Common.{arith}
use Rattle.chip.specs.Rules.{Cycle, write, read, sign, wait, supply, Register, Step, Sized, Nested, Ordered, Strike, none, program, erase, May, Answers, Shown, Signed}
use Rattle.chip.specs.declared.state.Code.{Code}
use Rattle.chip.specs.declared.state.Code.TheVariants.{Maker, Device}
use Rattle.chip.specs.declared.state.Mode.{Mode}
use Rattle.chip.specs.declared.state.Mode.TheVariants.{Read, Sign, Idle, ProgramSetup, Programming, ProgramVerify, EraseSetup, Erasing, EraseVerify}
use Rattle.chip.proofs.Bits.{within_refl}
use Rattle.socket.specs.Sockets.{vacant, Floats, vacant_after}

-- no strike has to move a byte
still : (f : Strike) (a x : ℕ) → May f a x x
still none a x = refl
still (program p d) a x = (λ _. (within_refl x, λ k _. refl), λ _. refl)
still erase a x = within_refl x

shown : (m : Mode) (r : Register) (a v : ℕ) → v ≡ 0xFF → Shown m (vacant r) a v
shown Read r a v e = e
shown Sign r a v e = tt
shown Idle r a v e = tt
shown ProgramSetup r a v e = tt
shown (Programming p d t) r a v e = tt
shown (ProgramVerify p t) r a v e = λ _. e
shown EraseSetup r a v e = tt
shown (Erasing t) r a v e = tt
shown (EraseVerify p t) r a v e = λ _. e

signed : (m : Mode) (r : Register) (c : Code) (v : ℕ) → v ≡ 0xFF → Signed m (vacant r) c v
signed Read r c v e = tt
signed Sign r Maker v e = e
signed Sign r Device v e = e
signed Idle r c v e = tt
signed ProgramSetup r c v e = tt
signed (Programming p d t) r c v e = tt
signed (ProgramVerify p t) r c v e = tt
signed EraseSetup r c v e = tt
signed (Erasing t) r c v e = tt
signed (EraseVerify p t) r c v e = tt

answers : (r : Register) (c : Cycle) → Floats c → Answers (vacant r) c
answers r (write a b) h = tt
answers r (read a v) h = (omega arith, shown r.mode r a v h)
answers r (sign c v) h = (omega arith, signed r.mode r c v h)
answers r (wait w) h = tt
answers r (supply v) h = tt

full : Nested 0xFF 0xFF 0xFF
full = record { inner = within_refl 0xFF; outer = within_refl 0xFF; byte_e = omega arith; byte_r = omega arith; byte_p = omega arith }

pub vacant_lawful : (r : Register) (c : Cycle) (q : Register) → q ≡ vacant_after c r → Floats c → Step (vacant r) c (vacant q)
vacant_lawful r c q e h =
    record {
      size = refl;
      maker = refl;
      device = refl;
      zeroed = false;
      told = (0, omega arith, omega arith);
      register = e;
      cells = λ a _. record { E = still _ a 0xFF; R = still _ a 0xFF; P = still _ a 0xFF; nested = λ o. o };
      answers = answers r c h;
    }

pub vacant_ordered : (r : Register) → Ordered (vacant r)
vacant_ordered r = record { nested = λ _ _. full }

pub vacant_sized : Sized 32768
vacant_sized = record { lines = 15; least = omega arith; most = omega arith; power = refl }
