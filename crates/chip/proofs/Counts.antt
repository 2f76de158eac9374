-- What one cycle makes of the marks.
use Rattle.std.proofs.Common.{◌≡◌, ℕ, suc, ◌+◌, ◌%◌, ◌^◌, ◌≤◌, Bool, true, false, cond, eqb, ltb, List, [], ◌∷◌, refl, arith}
use Rattle.chip.specs.Rules.{Cycle, write, read, sign, wait, supply, after_short, after_program, after_erase, ended, resets, after_reset, marks_after}
use Rattle.chip.specs.Laws.{Pulse, too_short, full_program, full_erase, closing, closes, programs, erases, shorts, Longest}
use Rattle.chip.specs.declared.state.Voltage.{Voltage}
use Rattle.chip.specs.declared.state.Voltage.TheVariants.{Low, High}
use Rattle.chip.specs.declared.state.Mode.{Mode}
use Rattle.chip.specs.declared.state.Mode.TheVariants.{Read, Sign, Idle, ProgramSetup, Programming, ProgramVerify, EraseSetup, Erasing, EraseVerify}
use Rattle.chip.specs.declared.state.Marks.{Marks}

-- CASES

-- What holds of the marks k and the pulses ps, and of each kind of pulse that ends, holds of what the end of a mode makes of them.
ended_by : (P : Marks → List Pulse → Type 0) (n : ℕ) (z : Bool) (m : Mode) (k : Marks) (ps : List Pulse)
    → P k ps → P (after_short k) (too_short ∷ ps) → ((p : ℕ) → P (after_program n p k) (full_program ∷ ps)) → P (after_erase z k) (full_erase ∷ ps) → P (ended n z m k) (closing m ps)
ended_by P n z Read k ps o s p e = o
ended_by P n z Sign k ps o s p e = o
ended_by P n z Idle k ps o s p e = o
ended_by P n z ProgramSetup k ps o s p e = o
ended_by P n z (Programming a d t) k ps o s p e = go (ltb t 10)
  where
    go : (b : Bool) → P (cond b (after_short k) (after_program n a k)) (cond b too_short full_program ∷ ps)
    go true = s
    go false = p a
ended_by P n z (ProgramVerify a t) k ps o s p e = o
ended_by P n z EraseSetup k ps o s p e = o
ended_by P n z (Erasing t) k ps o s p e = go (ltb t 10000)
  where
    go : (b : Bool) → P (cond b (after_short k) (after_erase z k)) (cond b too_short full_erase ∷ ps)
    go true = s
    go false = e
ended_by P n z (EraseVerify a t) k ps o s p e = o

-- What holds of the marks k and the pulses ps, and of what the end of the mode makes of them, with a reset or without, holds after a cycle.
cycle_by : (P : Marks → List Pulse → Type 0) (n : ℕ) (z : Bool) (c : Cycle) (u : Voltage) (m : Mode) (k : Marks) (ps : List Pulse)
    → P k ps → P (ended n z m k) (closing m ps) → ((b : Bool) → P (after_reset b (ended n z m k)) (closing m ps)) → P (marks_after n z c u m k) (closes c u m ps)
cycle_by P n z (write a b) Low m k ps o e r = o
cycle_by P n z (write a b) High m k ps o e r = r (resets m b)
cycle_by P n z (read a v) u m k ps o e r = o
cycle_by P n z (sign c v) u m k ps o e r = o
cycle_by P n z (wait w) u m k ps o e r = o
cycle_by P n z (supply v) u m k ps o e r = e

-- TALLIES

-- the marks at the end of a pulse, counted
pub record Counted (k l : Marks) (ps qs : List Pulse) : Type 0 where
  pub program : (l.tallies.program + programs ps) % 2 ^ 64 ≡ (k.tallies.program + programs qs) % 2 ^ 64
  pub erase : (l.tallies.erase + erases ps) % 2 ^ 64 ≡ (k.tallies.erase + erases qs) % 2 ^ 64
  pub short : (l.tallies.short + shorts ps) % 2 ^ 64 ≡ (k.tallies.short + shorts qs) % 2 ^ 64

carried : (x y : ℕ) → ((x + 1) % 2 ^ 64 + y) % 2 ^ 64 ≡ (x + suc y) % 2 ^ 64
carried x y = omega arith

ended_counted : (n : ℕ) (z : Bool) (m : Mode) (k : Marks) (ps : List Pulse) → Counted k (ended n z m k) ps (closing m ps)
ended_counted n z m k ps =
    ended_by (λ l qs. Counted k l ps qs) n z m k ps
    (record { program = refl; erase = refl; short = refl })
    (record { program = refl; erase = refl; short = carried _ _ })
    (λ _. record { program = carried _ _; erase = refl; short = refl })
    (record { program = refl; erase = carried _ _; short = refl })

pub counted : (n : ℕ) (z : Bool) (c : Cycle) (u : Voltage) (m : Mode) (k : Marks) (ps : List Pulse) → Counted k (marks_after n z c u m k) ps (closes c u m ps)
counted n z c u m k ps =
    let e = ended_counted n z m k ps in
    cycle_by (λ l qs. Counted k l ps qs) n z c u m k ps (record { program = refl; erase = refl; short = refl }) e (λ _. record { program = e.program; erase = e.erase; short = e.short })

-- the hard tally grows by g, which is 1 at most, and only with a full erase pulse
pub record Hardened (k l : Marks) (ps qs : List Pulse) : Type 0 where
  pub by : ℕ
  pub erased : by + erases ps ≤ erases qs
  pub hard : l.tallies.hard % 2 ^ 64 ≡ (k.tallies.hard + by) % 2 ^ 64

softly : (k l : Marks) (ps qs : List Pulse) → erases ps ≤ erases qs → l.tallies.hard ≡ k.tallies.hard → Hardened k l ps qs
softly k l ps qs h e = record { by = 0; erased = omega arith; hard = omega arith }

hardened_erase : (z o : Bool) (x y : ℕ) → (g : ℕ) × (g + y ≤ suc y) × (cond o (cond z x ((x + 1) % 2 ^ 64)) x % 2 ^ 64 ≡ (x + g) % 2 ^ 64)
hardened_erase true true x y = (0, omega arith, omega arith)
hardened_erase false true x y = (1, omega arith, omega arith)
hardened_erase z false x y = (0, omega arith, omega arith)

hardened_ended : (n : ℕ) (z : Bool) (m : Mode) (k : Marks) (ps : List Pulse) → Hardened k (ended n z m k) ps (closing m ps)
hardened_ended n z m k ps =
    ended_by (λ l qs. Hardened k l ps qs) n z m k ps
    (softly k k ps ps (omega arith) refl)
    (softly k (after_short k) ps (too_short ∷ ps) (omega arith) refl)
    (λ p. softly k (after_program n p k) ps (full_program ∷ ps) (omega arith) refl)
    (let g = hardened_erase z (eqb k.run.length 0) k.tallies.hard (erases ps) in record { by = g.0; erased = g.1; hard = g.2 })

pub hardened_after : (n : ℕ) (z : Bool) (c : Cycle) (u : Voltage) (m : Mode) (k : Marks) (ps : List Pulse) → Hardened k (marks_after n z c u m k) ps (closes c u m ps)
hardened_after n z c u m k ps =
    let e = hardened_ended n z m k ps in
    cycle_by (λ l qs. Hardened k l ps qs) n z c u m k ps (softly k k ps ps (omega arith) refl) e (λ _. record { by = e.by; erased = e.erased; hard = e.hard })

pub hard_then : (x y z g h p q : ℕ) → g + p ≤ q → h ≤ p → y % 2 ^ 64 ≡ (x + g) % 2 ^ 64 → z % 2 ^ 64 ≡ (y + h) % 2 ^ 64 → (i : ℕ) × (i ≤ q) × (z % 2 ^ 64 ≡ (x + i) % 2 ^ 64)
hard_then x y z g h p q l m e f = (g + h, omega arith, omega arith)

-- LENGTHS

pub longest_same : (k : Marks) → Longest k k
longest_same k = record { turn_grows = omega arith; run_grows = omega arith; turn_covers = λ h. h; run_covers = λ h. h }

pub longest_then : (k l m : Marks) → Longest k l → Longest l m → Longest k m
longest_then k l m p q =
    record {
      turn_grows = omega (arith, p.turn_grows, q.turn_grows);
      run_grows = omega (arith, p.run_grows, q.run_grows);
      turn_covers = λ h. q.turn_covers (p.turn_covers h);
      run_covers = λ h. q.run_covers (p.run_covers h);
    }

longest_ended : (n : ℕ) (z : Bool) (m : Mode) (k : Marks) → Longest k (ended n z m k)
longest_ended n z m k =
    ended_by (λ l _. Longest k l) n z m k []
    (longest_same k)
    (record { turn_grows = omega arith; run_grows = omega arith; turn_covers = λ h. h; run_covers = λ h. h })
    (λ _. record { turn_grows = omega arith; run_grows = omega arith; turn_covers = λ _. omega arith; run_covers = λ _. omega arith })
    (record { turn_grows = omega arith; run_grows = omega arith; turn_covers = λ _. omega arith; run_covers = λ _. omega arith })

longest_reset : (b : Bool) (k : Marks) → Longest k (after_reset b k)
longest_reset true k = record { turn_grows = omega arith; run_grows = omega arith; turn_covers = λ _. omega arith; run_covers = λ h. h }
longest_reset false k = longest_same k

pub longest_after : (n : ℕ) (z : Bool) (c : Cycle) (u : Voltage) (m : Mode) (k : Marks) → Longest k (marks_after n z c u m k)
longest_after n z c u m k =
    let e = longest_ended n z m k in
    cycle_by (λ l _. Longest k l) n z c u m k [] (longest_same k) e (λ b. longest_then k (ended n z m k) _ e (longest_reset b (ended n z m k)))
