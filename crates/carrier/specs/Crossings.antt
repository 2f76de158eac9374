-- A chip seen through a crossing keeps the rules.
use Rattle.std.specs.Prelude.{◌≡◌, ℕ, ◌%◌, ◌<◌, max, Bool, true, false, cond, ◌==◌, nat_lt, refl}
use Rattle.std.proofs.Common.{sym, ◌∙◌, ap, ap₂, subst, mod-lt, mod-eq_of_lt}
use Rattle.std.proofs.Math.Nat.{mod-mod}
use Rattle.std.proofs.lemmas.Bool.Decides.{same_from_decides, Decides-like, Decides-eqb}
use Rattle.chip.specs.Rules.{Cycle, write, read, sign, wait, supply, Meaning, Register, Step, Sized, Ordered, program, May, Zeroed, Answers, Shown, Signed, code}
use Rattle.chip.specs.Rules.{pulse, strike, tally, longer, after_program, ended, resets, after_reset, marks_after, commanded, chosen, timed, mode_after, voltage_after, after}
use Rattle.chip.specs.declared.state.Voltage.{Voltage}
use Rattle.chip.specs.declared.state.Voltage.TheVariants.{Low, High}
use Rattle.chip.specs.declared.state.Code.{Code}
use Rattle.chip.specs.declared.state.Code.TheVariants.{Maker, Device}
use Rattle.chip.specs.declared.state.Mode.{Mode}
use Rattle.chip.specs.declared.state.Mode.TheVariants.{Read, Sign, Idle, ProgramSetup, Programming, ProgramVerify, EraseSetup, Erasing, EraseVerify}
use Rattle.chip.specs.declared.state.Marks.{Marks}
use Rattle.chip.proofs.Sizes.{sized_pos}
use Rattle.carrier.specs.Crossing.{Crosses, across, crossed, mode_seen, marks_seen, register_seen, seen}

-- A chip seen through the crossing for n places, whatever size it gives itself.
abbrev seen_by : (ℕ → ℕ → ℕ) → (ℕ → ℕ → ℕ) → ℕ → Meaning → Meaning
seen_by there back n m = record {
  size = m.size;
  maker = m.maker;
  device = m.device;
  E = λ a. m.E (there n a);
  R = λ a. m.R (there n a);
  P = λ a. m.P (there n a);
  register = register_seen back n m.register;
}

-- a choice seen through f is the choice between what is seen
cond_seen : {A : Type 0} (f : A → A) (b : Bool) (x y u v : A) → x ≡ f u → y ≡ f v → cond b x y ≡ f (cond b u v)
cond_seen f true x y u v p q = p
cond_seen f false x y u v p q = q

module _ (there back : ℕ → ℕ → ℕ) (n : ℕ) (pos : 0 < n) (x : Crosses (there n) (back n) n) where
  -- PLACES

  there_below : (a : ℕ) → across there n a < n
  there_below a = x.there_inside (a % n) (mod-lt a pos)

  back_below : (p : ℕ) → across back n p < n
  back_below p = x.back_inside (p % n) (mod-lt p pos)

  there_mod : (a : ℕ) → across there n a % n ≡ across there n a
  there_mod a = mod-eq_of_lt (there_below a)

  back_mod : (p : ℕ) → across back n p % n ≡ across back n p
  back_mod p = mod-eq_of_lt (back_below p)

  back_of_there : (a : ℕ) → across back n (across there n a % n) ≡ a % n
  back_of_there a = ap (back n) (mod-mod (across there n a) n ∙ there_mod a) ∙ x.back_there (a % n) (mod-lt a pos)

  there_of_back : (p : ℕ) → there n (across back n p % n) ≡ p % n
  there_of_back p = ap (there n) (back_mod p) ∙ x.there_back (p % n) (mod-lt p pos)

  same_place : (p q : ℕ) → (across back n p % n == across back n q % n) ≡ (p % n == q % n)
  same_place p q =
      same_from_decides _ _
      (Decides-like _ (λ e. sym (there_of_back p) ∙ ap (there n) e ∙ there_of_back q) (λ e. ap (λ k. back n k % n) e) (Decides-eqb (across back n p % n) (across back n q % n)))
      (Decides-eqb (p % n) (q % n))

  -- MARKS

  after_program_seen : (p : ℕ) (k : Marks) → after_program n (across back n p) (marks_seen back n k) ≡ marks_seen back n (after_program n p k)
  after_program_seen p k =
      let F : ℕ → Bool → Marks =
      λ at same.
      record {
        tallies = record { program = tally k.tallies.program; erase = k.tallies.erase; short = k.tallies.short; hard = k.tallies.hard };
        turn = record { place = at; length = cond same (longer k.turn.length) 1; longest = max k.turn.longest (cond same (longer k.turn.length) 1) };
        run = record { length = 0; longest = k.run.longest };
      }
      in
      ap₂ F (back_mod p ∙ sym (ap (back n) (mod-mod p n))) (same_place p k.turn.place)

  ended_seen : (zeroed : Bool) (m : Mode) (k : Marks) → ended n zeroed (mode_seen back n m) (marks_seen back n k) ≡ marks_seen back n (ended n zeroed m k)
  ended_seen zeroed Read k = refl
  ended_seen zeroed Sign k = refl
  ended_seen zeroed Idle k = refl
  ended_seen zeroed ProgramSetup k = refl
  ended_seen zeroed (Programming p d t) k = cond_seen (marks_seen back n) (nat_lt t 10) _ _ _ _ refl (after_program_seen p k)
  ended_seen zeroed (ProgramVerify p t) k = refl
  ended_seen zeroed EraseSetup k = refl
  ended_seen zeroed (Erasing t) k = cond_seen (marks_seen back n) (nat_lt t 10000) _ _ _ _ refl refl
  ended_seen zeroed (EraseVerify p t) k = refl

  resets_seen : (m : Mode) (b : ℕ) → resets (mode_seen back n m) b ≡ resets m b
  resets_seen Read b = refl
  resets_seen Sign b = refl
  resets_seen Idle b = refl
  resets_seen ProgramSetup b = refl
  resets_seen (Programming p d t) b = refl
  resets_seen (ProgramVerify p t) b = refl
  resets_seen EraseSetup b = refl
  resets_seen (Erasing t) b = refl
  resets_seen (EraseVerify p t) b = refl

  marks_after_seen : (zeroed : Bool) (c : Cycle) (u : Voltage) (m : Mode) (k : Marks) → marks_after n zeroed c u (mode_seen back n m) (marks_seen back n k) ≡ marks_seen back n (marks_after n zeroed (crossed there n c) u m k)
  marks_after_seen zeroed (write a b) Low m k = refl
  marks_after_seen zeroed (write a b) High m k = ap₂ after_reset (resets_seen m b) (ended_seen zeroed m k)
  marks_after_seen zeroed (read a v) u m k = refl
  marks_after_seen zeroed (sign c v) u m k = refl
  marks_after_seen zeroed (wait w) u m k = refl
  marks_after_seen zeroed (supply v) u m k = ended_seen zeroed m k

  -- MODES

  commanded_seen : (a b : ℕ) (u v : Mode) → u ≡ mode_seen back n v → commanded n a b u ≡ mode_seen back n (commanded n (across there n a) b v)
  commanded_seen a b u v e =
      cond_seen (mode_seen back n) (b == 0x00) _ _ _ _ refl
      (cond_seen (mode_seen back n) (b == 0x90) _ _ _ _ refl
      (cond_seen (mode_seen back n) (b == 0x20) _ _ _ _ refl
      (cond_seen (mode_seen back n) (b == 0x40) _ _ _ _ refl
      (cond_seen (mode_seen back n) (b == 0xA0) _ _ _ _ (ap (λ p. EraseVerify p 0) (sym (back_of_there a)))
      (cond_seen (mode_seen back n) (b == 0xC0) _ _ _ _ e refl)))))

  chosen_seen : (a b : ℕ) (m : Mode) → chosen n a b (mode_seen back n m) ≡ mode_seen back n (chosen n (across there n a) b m)
  chosen_seen a b Read = commanded_seen a b Idle Idle refl
  chosen_seen a b Sign = commanded_seen a b Idle Idle refl
  chosen_seen a b Idle = commanded_seen a b Idle Idle refl
  chosen_seen a b ProgramSetup = ap (λ p. Programming p b 0) (sym (back_of_there a))
  chosen_seen a b (Programming p d t) = commanded_seen a b (ProgramVerify (across back n p) 0) (ProgramVerify p 0) refl
  chosen_seen a b (ProgramVerify p t) = commanded_seen a b Idle Idle refl
  chosen_seen a b EraseSetup = cond_seen (mode_seen back n) (b == 0x20) _ _ _ _ refl refl
  chosen_seen a b (Erasing t) = commanded_seen a b Idle Idle refl
  chosen_seen a b (EraseVerify p t) = commanded_seen a b Idle Idle refl

  timed_seen : (w : ℕ) (m : Mode) → timed w (mode_seen back n m) ≡ mode_seen back n (timed w m)
  timed_seen w Read = refl
  timed_seen w Sign = refl
  timed_seen w Idle = refl
  timed_seen w ProgramSetup = refl
  timed_seen w (Programming p d t) = refl
  timed_seen w (ProgramVerify p t) = refl
  timed_seen w EraseSetup = refl
  timed_seen w (Erasing t) = refl
  timed_seen w (EraseVerify p t) = refl

  mode_after_seen : (c : Cycle) (u : Voltage) (m : Mode) → mode_after n c u (mode_seen back n m) ≡ mode_seen back n (mode_after n (crossed there n c) u m)
  mode_after_seen (write a b) Low m = refl
  mode_after_seen (write a b) High m = chosen_seen a b m
  mode_after_seen (read a v) u m = refl
  mode_after_seen (sign c v) u m = refl
  mode_after_seen (wait w) u m = timed_seen w m
  mode_after_seen (supply v) u m = refl

  -- THE REGISTER

  voltage_after_seen : (c : Cycle) (u : Voltage) → voltage_after c u ≡ voltage_after (crossed there n c) u
  voltage_after_seen (write a b) u = refl
  voltage_after_seen (read a v) u = refl
  voltage_after_seen (sign c v) u = refl
  voltage_after_seen (wait w) u = refl
  voltage_after_seen (supply v) u = refl

  after_seen : (zeroed : Bool) (c : Cycle) (r : Register) → after n zeroed c (register_seen back n r) ≡ register_seen back n (after n zeroed (crossed there n c) r)
  after_seen zeroed c r =
      let k = marks_after_seen zeroed c r.voltage r.mode r.marks in
      let v = voltage_after_seen c r.voltage in
      let m = mode_after_seen c r.voltage r.mode in
      λ i. record { marks = k i; voltage = v i; mode = m i }

  -- STRIKES

  may_program : (p d a y z : ℕ) → a < n → May (program (p % n) d) (there n a) y z → May (program (across back n p % n) d) a y z
  may_program p d a y z l m =
      (λ q. m.0 (ap (there n) q ∙ there_of_back p), λ q. m.1 (λ r. q (sym (x.back_there a l) ∙ ap (back n) r ∙ sym (back_mod p))))

  may_pulse : (m : Mode) (a y z : ℕ) → a < n → May (pulse n m) (there n a) y z → May (pulse n (mode_seen back n m)) a y z
  may_pulse Read a y z l f = f
  may_pulse Sign a y z l f = f
  may_pulse Idle a y z l f = f
  may_pulse ProgramSetup a y z l f = f
  may_pulse (Programming p d t) a y z l f = may_program p d a y z l f
  may_pulse (ProgramVerify p t) a y z l f = f
  may_pulse EraseSetup a y z l f = f
  may_pulse (Erasing t) a y z l f = f
  may_pulse (EraseVerify p t) a y z l f = f

  may_strike : (c : Cycle) (u : Voltage) (m : Mode) (a y z : ℕ) → a < n → May (strike n (crossed there n c) u m) (there n a) y z → May (strike n c u (mode_seen back n m)) a y z
  may_strike (write b v) Low m a y z l f = f
  may_strike (write b v) High m a y z l f = may_pulse m a y z l f
  may_strike (read b v) u m a y z l f = f
  may_strike (sign b v) u m a y z l f = f
  may_strike (wait w) u m a y z l f = f
  may_strike (supply v) u m a y z l f = may_pulse m a y z l f

module _ (there back : ℕ → ℕ → ℕ) (s : Meaning) (pos : 0 < s.size) (x : Crosses (there s.size) (back s.size) s.size) where
  zeroed_seen : (zeroed : Bool) → Zeroed zeroed s → Zeroed zeroed (seen there back s)
  zeroed_seen true z = λ a l. z (there s.size a) (x.there_inside a l)
  zeroed_seen false z = (back s.size z.0, x.back_inside z.0 z.1, subst (λ (p : ℕ). 0 < s.P p) (sym (x.there_back z.0 z.1)) z.2)

  -- READINGS

  shown_seen : (m : Mode) (a v : ℕ) → Shown m s (across there s.size a) v → Shown (mode_seen back s.size m) (seen there back s) a v
  shown_seen Read a v e = e ∙ ap s.R (there_mod there back s.size pos x a)
  shown_seen Sign a v e = tt
  shown_seen Idle a v e = tt
  shown_seen ProgramSetup a v e = tt
  shown_seen (Programming p d t) a v e = tt
  shown_seen (ProgramVerify p t) a v e = λ l. e l ∙ ap s.P (sym (there_of_back there back s.size pos x p))
  shown_seen EraseSetup a v e = tt
  shown_seen (Erasing t) a v e = tt
  shown_seen (EraseVerify p t) a v e = λ l. e l ∙ ap s.E (sym (there_of_back there back s.size pos x p))

  code_seen : (c : Code) → code c (seen there back s) ≡ code c s
  code_seen Maker = refl
  code_seen Device = refl

  signed_seen : (m : Mode) (c : Code) (v : ℕ) → Signed m s c v → Signed (mode_seen back s.size m) (seen there back s) c v
  signed_seen Read c v e = tt
  signed_seen Sign c v e = e ∙ sym (code_seen c)
  signed_seen Idle c v e = tt
  signed_seen ProgramSetup c v e = tt
  signed_seen (Programming p d t) c v e = tt
  signed_seen (ProgramVerify p t) c v e = tt
  signed_seen EraseSetup c v e = tt
  signed_seen (Erasing t) c v e = tt
  signed_seen (EraseVerify p t) c v e = tt

  answers_seen : (c : Cycle) → Answers s (crossed there s.size c) → Answers (seen there back s) c
  answers_seen (write a b) e = tt
  answers_seen (read a v) e = (e.0, shown_seen s.register.mode a v e.1)
  answers_seen (sign c v) e = (e.0, signed_seen s.register.mode c v e.1)
  answers_seen (wait w) e = tt
  answers_seen (supply v) e = tt

  -- THE STEP

  step_seen : (c : Cycle) (t : Meaning) → Step s (crossed there s.size c) t → Step (seen there back s) c (seen_by there back s.size t)
  step_seen c t e =
      record {
        size = e.size;
        maker = e.maker;
        device = e.device;
        zeroed = e.zeroed;
        told = zeroed_seen e.zeroed e.told;
        register = ap (register_seen back s.size) e.register ∙ sym (after_seen there back s.size pos x e.zeroed c s.register);
        cells = λ a l.
            let m = e.cells (there s.size a) (x.there_inside a l) in
            record {
              E = may_strike there back s.size pos x c s.register.voltage s.register.mode a _ _ l m.E;
              R = may_strike there back s.size pos x c s.register.voltage s.register.mode a _ _ l m.R;
              P = may_strike there back s.size pos x c s.register.voltage s.register.mode a _ _ l m.P;
              nested = m.nested;
            };
        answers = answers_seen c e.answers;
      }

pub seen_lawful : (there back : ℕ → ℕ → ℕ) (s : Meaning) (c : Cycle) (t : Meaning) → Sized s.size → Crosses (there s.size) (back s.size) s.size → Step s (crossed there s.size c) t → Step (seen there back s) c (seen there back t)
seen_lawful there back s c t z x e =
    subst (λ (n : ℕ). Step (seen there back s) c (seen_by there back n t)) (sym e.size) (step_seen there back s (sized_pos s.size z) x c t e)

pub seen_ordered : (there back : ℕ → ℕ → ℕ) (s : Meaning) → Crosses (there s.size) (back s.size) s.size → Ordered s → Ordered (seen there back s)
seen_ordered there back s x o = record { nested = λ a l. o.nested (there s.size a) (x.there_inside a l) }
