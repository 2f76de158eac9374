-- The laws of runs follow from the rules.
use Rattle.std.proofs.Common.{◌≡◌, ℕ, ◌+◌, ◌%◌, ◌^◌, ◌<◌, ◌≤◌, Bool, true, false, eqb, List, [], ◌∷◌, sym, refl, ap, ◌∙◌, subst, arith}
use Rattle.std.proofs.lemmas.Bool.{eqb-true, eqb-false}
use Rattle.chip.specs.Rules.{Cycle, write, read, sign, wait, supply, Meaning, Within, Strike, none, program, erase, May, pulse, strike, timed, mode_after, voltage_after, Step}
use Rattle.chip.specs.Runs.{Ran}
use Rattle.chip.specs.Laws.{high_writes, Pulse, closes, pulses, programs, erases, shorts, strikes, NoErase, NoProgram, Same, Below, Longest, Kept, Keeps}
use Rattle.chip.specs.declared.state.Voltage.{Voltage}
use Rattle.chip.specs.declared.state.Voltage.TheVariants.{Low, High}
use Rattle.chip.specs.declared.state.Mode.{Mode}
use Rattle.chip.specs.declared.state.Mode.TheVariants.{Read, Sign, Idle, ProgramSetup, Programming, ProgramVerify, EraseSetup, Erasing, EraseVerify}
use Rattle.chip.proofs.Bits.{within_refl, within_trans}
use Rattle.chip.proofs.Counts.{counted, hardened_after, hard_then, longest_same, longest_then, longest_after}

-- a run that a chip takes is a run of the rules
pub stepped : {C : Type 0} (takes : C → Cycle → C → Type 0) (meaning : C → Meaning) → ((s : C) (c : Cycle) (t : C) → takes s c t → Step (meaning s) c (meaning t))
    → (s : C) (cs : List Cycle) (t : C) → Ran takes s cs t → Ran Step (meaning s) cs (meaning t)
stepped takes meaning law s [] t r = ap meaning r
stepped takes meaning law s (c ∷ cs) t r = (meaning r.0, law s c r.0 r.1, stepped takes meaning law r.0 cs t r.2)

-- STRIKES

timed_pulse : (n w : ℕ) (m : Mode) → pulse n (timed w m) ≡ pulse n m
timed_pulse n w Read = refl
timed_pulse n w Sign = refl
timed_pulse n w Idle = refl
timed_pulse n w ProgramSetup = refl
timed_pulse n w (Programming p d t) = refl
timed_pulse n w (ProgramVerify p t) = refl
timed_pulse n w EraseSetup = refl
timed_pulse n w (Erasing t) = refl
timed_pulse n w (EraseVerify p t) = refl

-- where no pulse is open, a cycle that is no write at high voltage strikes nothing and opens none
pub record Quiet (n : ℕ) (c : Cycle) (u : Voltage) (m : Mode) (cs : List Cycle) : Type 0 where
  pub strikes_nothing : strike n c u m ≡ none
  pub opens_none : pulse n (mode_after n c u m) ≡ none
  pub rest : high_writes (voltage_after c u) cs ≡ 0

quiet : (n : ℕ) (c : Cycle) (u : Voltage) (m : Mode) (cs : List Cycle) → pulse n m ≡ none → high_writes u (c ∷ cs) ≡ 0 → Quiet n c u m cs
quiet n (write a b) Low m cs o h = record { strikes_nothing = refl; opens_none = o; rest = h }
quiet n (write a b) High m cs o h = absurd (omega arith)
quiet n (read a v) u m cs o h = record { strikes_nothing = refl; opens_none = o; rest = h }
quiet n (sign c v) u m cs o h = record { strikes_nothing = refl; opens_none = o; rest = h }
quiet n (wait w) u m cs o h = record { strikes_nothing = refl; opens_none = timed_pulse n w m ∙ o; rest = h }
quiet n (supply v) u m cs o h = record { strikes_nothing = o; opens_none = refl; rest = h }

within_same : (x y : ℕ) → y ≡ x → Within y x
within_same x y e = subst (λ (z : ℕ). Within z x) (sym e) (within_refl x)

same_within : (x y : ℕ) → y ≡ x → Within x y
same_within x y e = subst (λ (z : ℕ). Within x z) (sym e) (within_refl x)

program_falls : (p d a x y : ℕ) → May (program p d) a x y → Within y x
program_falls p d a x y m = go (eqb a p) refl
  where
    go : (b : Bool) → eqb a p ≡ b → Within y x
    go true e = (m.0 (eqb-true a p e)).0
    go false e = within_same x y (m.1 (eqb-false a p e))

fall : (f : Strike) (fs : List Strike) (a x y : ℕ) → NoErase (f ∷ fs) → May f a x y → Within y x
fall none fs a x y q m = within_same x y m
fall (program p d) fs a x y q m = program_falls p d a x y m
fall erase fs a x y q m = absurd q

fall_rest : (f : Strike) (fs : List Strike) → NoErase (f ∷ fs) → NoErase fs
fall_rest none fs q = q
fall_rest (program p d) fs q = q
fall_rest erase fs q = absurd q

rise : (f : Strike) (fs : List Strike) (a x y : ℕ) → NoProgram (f ∷ fs) → May f a x y → Within x y
rise none fs a x y q m = same_within x y m
rise (program p d) fs a x y q m = absurd q
rise erase fs a x y q m = m

rise_rest : (f : Strike) (fs : List Strike) → NoProgram (f ∷ fs) → NoProgram fs
rise_rest none fs q = q
rise_rest (program p d) fs q = absurd q
rise_rest erase fs q = q

-- RUNS

same_itself : (s : Meaning) → Same s s
same_itself s = record { E = λ _ _. refl; R = λ _ _. refl; P = λ _ _. refl }

below_itself : (s : Meaning) → Below s.size s s
below_itself s = record { E = λ a _. within_refl (s.E a); R = λ a _. within_refl (s.R a); P = λ a _. within_refl (s.P a) }

kept_none : (s : Meaning) → Kept s [] s
kept_none s =
    record {
      size = refl;
      maker = refl;
      device = refl;
      ordered = λ o. o;
      program_tally = ap (λ (x : ℕ). x % 2 ^ 64) (omega arith);
      erase_tally = ap (λ (x : ℕ). x % 2 ^ 64) (omega arith);
      short_tally = ap (λ (x : ℕ). x % 2 ^ 64) (omega arith);
      hard_tally = (0, omega arith, ap (λ (x : ℕ). x % 2 ^ 64) (omega arith));
      longest = longest_same s.register.marks;
      still = λ _ _. same_itself s;
      falls = λ _. below_itself s;
      rises = λ _. below_itself s;
    }

kept_more : (s : Meaning) (c : Cycle) (u : Meaning) (cs : List Cycle) (t : Meaning) → Step s c u → Kept u cs t → Kept s (c ∷ cs) t
kept_more s c u cs t e k =
    let f = strike s.size c s.register.voltage s.register.mode in
    let up : (a : ℕ) → a < s.size → a < u.size = λ a l. subst (λ (x : ℕ). a < x) (sym e.size) l in
    let down : (a : ℕ) → a < u.size → a < s.size = λ a l. subst (λ (x : ℕ). a < x) e.size l in
    let rest : pulses u.size u.register.voltage u.register.mode cs ≡ pulses s.size (voltage_after c s.register.voltage) (mode_after s.size c s.register.voltage s.register.mode) cs
    = λ i. pulses (e.size i) (e.register i).voltage (e.register i).mode cs in
    let hits : strikes u.size u.register.voltage u.register.mode cs ≡ strikes s.size (voltage_after c s.register.voltage) (mode_after s.size c s.register.voltage s.register.mode) cs
    = λ i. strikes (e.size i) (e.register i).voltage (e.register i).mode cs in
    let q = counted s.size e.zeroed c s.register.voltage s.register.mode s.register.marks (pulses s.size (voltage_after c s.register.voltage) (mode_after s.size c s.register.voltage s.register.mode) cs) in
    record {
      size = k.size ∙ e.size;
      maker = k.maker ∙ e.maker;
      device = k.device ∙ e.device;
      ordered = λ o. k.ordered (record { nested = λ a l. (e.cells a (down a l)).nested (o.nested a (down a l)) });
      program_tally = k.program_tally ∙ (λ i. ((e.register i).marks.tallies.program + programs (rest i)) % 2 ^ 64) ∙ q.program;
      erase_tally = k.erase_tally ∙ (λ i. ((e.register i).marks.tallies.erase + erases (rest i)) % 2 ^ 64) ∙ q.erase;
      short_tally = k.short_tally ∙ (λ i. ((e.register i).marks.tallies.short + shorts (rest i)) % 2 ^ 64) ∙ q.short;
      hard_tally =
          let g = hardened_after s.size e.zeroed c s.register.voltage s.register.mode s.register.marks (pulses s.size (voltage_after c s.register.voltage) (mode_after s.size c s.register.voltage s.register.mode) cs) in
          hard_then s.register.marks.tallies.hard u.register.marks.tallies.hard t.register.marks.tallies.hard g.by k.hard_tally.0 (erases (pulses u.size u.register.voltage u.register.mode cs)) _
          (subst (λ (x : List Pulse). g.by + erases x ≤ erases (closes c s.register.voltage s.register.mode (pulses s.size (voltage_after c s.register.voltage) (mode_after s.size c s.register.voltage s.register.mode) cs))) (sym rest) g.erased)
          k.hard_tally.1 ((λ i. (e.register i).marks.tallies.hard % 2 ^ 64) ∙ g.hard) k.hard_tally.2;
      longest = longest_then _ _ _ (subst (Longest s.register.marks) (sym (λ i. (e.register i).marks)) (longest_after s.size e.zeroed c s.register.voltage s.register.mode s.register.marks)) k.longest;
      still = λ o h.
          let g = quiet s.size c s.register.voltage s.register.mode cs o h in
          let w = k.still ((λ i. pulse (e.size i) (e.register i).mode) ∙ g.opens_none) ((λ i. high_writes (e.register i).voltage cs) ∙ g.rest) in
          record {
            E = λ a l. w.E a (up a l) ∙ subst (λ (x : Strike). May x a (s.E a) (u.E a)) g.strikes_nothing (e.cells a l).E;
            R = λ a l. w.R a (up a l) ∙ subst (λ (x : Strike). May x a (s.R a) (u.R a)) g.strikes_nothing (e.cells a l).R;
            P = λ a l. w.P a (up a l) ∙ subst (λ (x : Strike). May x a (s.P a) (u.P a)) g.strikes_nothing (e.cells a l).P;
          };
      falls = λ h.
          let w = k.falls (subst NoErase (sym hits) (fall_rest f _ h)) in
          record {
            E = λ a l. within_trans _ _ _ (w.E a (up a l)) (fall f _ a _ _ h (e.cells a l).E);
            R = λ a l. within_trans _ _ _ (w.R a (up a l)) (fall f _ a _ _ h (e.cells a l).R);
            P = λ a l. within_trans _ _ _ (w.P a (up a l)) (fall f _ a _ _ h (e.cells a l).P);
          };
      rises = λ h.
          let w = k.rises (subst NoProgram (sym hits) (rise_rest f _ h)) in
          record {
            E = λ a l. within_trans _ _ _ (rise f _ a _ _ h (e.cells a l).E) (w.E a (up a l));
            R = λ a l. within_trans _ _ _ (rise f _ a _ _ h (e.cells a l).R) (w.R a (up a l));
            P = λ a l. within_trans _ _ _ (rise f _ a _ _ h (e.cells a l).P) (w.P a (up a l));
          };
    }

pub kept : (s : Meaning) (cs : List Cycle) (t : Meaning) → Ran Step s cs t → Kept s cs t
kept s [] t r = subst (λ (x : Meaning). Kept s [] x) (sym r) (kept_none s)
kept s (c ∷ cs) t r = kept_more s c r.0 cs t r.1 (kept r.0 cs t r.2)

pub keeps : {C : Type 0} (takes : C → Cycle → C → Type 0) (meaning : C → Meaning) → ((s : C) (c : Cycle) (t : C) → takes s c t → Step (meaning s) c (meaning t)) → (s : C) → Keeps takes meaning s
keeps takes meaning law s cs t r = kept (meaning s) cs (meaning t) (stepped takes meaning law s cs t r)
